-- The laws of port counts, and the loops that test them.
pub mod Counts
