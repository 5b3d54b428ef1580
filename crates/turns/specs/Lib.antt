-- How many turns there are.
pub mod Turns
