-- The definitions of a tidying: one round, and the rounds together.
pub mod Round
pub mod Tidying
