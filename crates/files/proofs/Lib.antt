-- The laws of a file's answers.
mod Kept
pub mod Naming
