-- What a ring and a request are refused for.
pub mod Causes
