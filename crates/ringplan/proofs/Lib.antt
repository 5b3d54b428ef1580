-- The laws of the planner's program: bytes as they come, and the lines that they are.
pub mod Takings
pub mod ByLines
pub mod Feeding
pub mod Turns
