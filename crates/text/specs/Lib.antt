-- Texts and decimal numbers as bytes.
pub mod Bytes
pub mod Decimal
pub mod Number
pub mod Signed
