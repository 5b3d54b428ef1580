-- The laws of entries as numbers, of lists of numbers in room, and of positions in them.
pub mod Words
pub mod Padded
pub mod Shift
pub mod Places
pub mod Rising
pub mod Numbered
pub mod Both
