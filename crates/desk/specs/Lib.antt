-- What a line does at the desk, and demand 3 in what it prints.
pub mod Desk
pub mod Demand3
