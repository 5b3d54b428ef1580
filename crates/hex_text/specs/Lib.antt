-- Bytes as hexadecimal digits, and back.
pub mod Hex
