-- The pass over the places.
pub mod Seen
