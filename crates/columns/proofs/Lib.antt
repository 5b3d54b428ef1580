-- The laws of columns: digits counted, and spaces put.
mod DigitCount
mod Spaces
