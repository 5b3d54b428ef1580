-- The laws of the moves: their list, the lent list after them; those of a tidying, by value and with others after them.
pub mod Listed
pub mod Front
pub mod Recorded
pub mod Appending
