-- The laws of a tidying by value: the search for a pair, which pairs are passed by, what is found, and the rounds together.
pub mod Seek
pub mod Passing
pub mod Finding
pub mod Midway
