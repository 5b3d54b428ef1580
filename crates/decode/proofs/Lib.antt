-- The laws of reading by position: the records of all places, the ring, and the stages of the whole.
pub mod Listing
pub mod Rings
pub mod Stages
