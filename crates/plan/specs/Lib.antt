-- A plan of the steps by value.
pub mod Planned
