-- The laws of the one-link question: its refusals, which circuit of a place is found, and that it is the one that the answer should be.
pub mod Asked
pub mod Found
pub mod Runs
