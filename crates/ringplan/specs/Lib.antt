-- What the planner's program keeps to between two reads, what its input does and prints, and what each turn promises.
pub mod Plan
pub mod Input
pub mod Turn
