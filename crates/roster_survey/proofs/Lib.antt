-- The laws of the two passes, of the entries that they go over, and of the survey that they make.
pub mod Passing
pub mod Joined
pub mod Lowest
pub mod Entries
pub mod Surveyed
pub mod One
