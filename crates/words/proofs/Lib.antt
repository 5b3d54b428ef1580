-- The laws of words: how a line parts into them, where one ends, the number that it is, and what follows from it.
pub mod Split
pub mod Fields
pub mod Parse
