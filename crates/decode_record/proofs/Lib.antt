-- The laws of reading a record by position: its circuits with their optional fields, and the record.
pub mod Circuits
pub mod Records
