-- What a script prints, and its bytes as they come.
pub mod Script
pub mod Bytes
pub mod Reads
