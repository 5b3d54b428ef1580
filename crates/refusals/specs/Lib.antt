-- The refusals, their numbers, and answers as numbers and values.
pub mod Refusal
pub mod Answer
