-- The laws of text: digits, reading a number, with its sign or without, and reading back what was printed.
pub mod Decimal
pub mod Reading
pub mod Back
pub mod Sign
