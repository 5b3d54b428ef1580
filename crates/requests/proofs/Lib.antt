-- The laws of a line by its first word and its port counts, and document 01's lines.
pub mod Ports
pub mod FirstWord
pub mod Few
pub mod Cases
