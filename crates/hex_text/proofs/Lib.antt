-- The laws of hexadecimal digits: one, a text of them written and read, and there and back.
pub mod OneDigit
pub mod Writing
pub mod Reading
pub mod Back
