-- What a line asks for beyond the script's three kinds.
pub mod Command
pub mod Parsed
