-- A list in an array.
pub mod Gathering
