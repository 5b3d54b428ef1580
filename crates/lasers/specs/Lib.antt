-- What is printed of lasers.
pub mod Lines
