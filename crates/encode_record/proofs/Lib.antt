-- The laws of a record written: the bytes of a circuit, of a record, and their lengths.
pub mod Circuits
pub mod Records
pub mod Lengths
