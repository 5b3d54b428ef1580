-- The laws.
pub mod Moved
pub mod Replaced
pub mod Calls
