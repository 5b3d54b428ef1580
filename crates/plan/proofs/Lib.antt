-- The laws of a plan by value: that it is the plan of the steps, and that it does what the plan does.
pub mod Chosen
pub mod ByValue
