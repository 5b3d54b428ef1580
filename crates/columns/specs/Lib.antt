-- The room of a row's columns.
pub mod Columns
