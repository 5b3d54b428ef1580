-- The laws of the grid: its points, plans, there and back; and what the code computes.
pub mod Points
pub mod Plans
pub mod Laws
pub mod Numbers
pub mod Machine
pub mod Calls
pub mod Divided
