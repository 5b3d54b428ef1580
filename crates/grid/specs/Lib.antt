-- The frequency grid, and what is answered of a plan of it.
pub mod Grid
pub mod Tuning
pub mod Number
