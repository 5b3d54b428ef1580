-- The row of a node in a roster.
pub mod Row
