-- The laws of a line by its first word, by its last, and of where a command's form or path begins.
pub mod FirstWord
pub mod Last
pub mod Asked
pub mod Begins
