-- What is printed of a node's row.
pub mod Lines
