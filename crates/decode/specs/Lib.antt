-- What the reader has of a form as far as it is read.
pub mod Begun
