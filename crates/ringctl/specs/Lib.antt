-- What the program does with what it reads.
pub mod Turn
