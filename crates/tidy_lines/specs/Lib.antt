-- What is printed of a tidying.
pub mod Lines
