-- The definitions of an opening, step by step; of following its records; of what has moved; and, for the proofs, of what a plan asks for and
-- of what an opening or a closing keeps.
pub mod Plan
pub mod Steps
pub mod Following
pub mod Moved
pub mod Ready
pub mod Kept
