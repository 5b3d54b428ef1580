-- What is printed of the nodes of a ring, and the circuits to a node where they stand.
pub mod Lines
pub mod Arrivals
