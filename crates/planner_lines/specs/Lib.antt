-- What a line of the planner's program does to the desk and prints, and what running one asks for and promises.
pub mod Line
pub mod Ran
