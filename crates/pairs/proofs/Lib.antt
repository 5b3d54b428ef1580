-- The search for a pair, and for x.
pub mod Seek
pub mod Lane
