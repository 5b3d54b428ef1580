-- The laws of a tidying: what stays where it is, who of a pair moves, what joining does, one round, the rounds together, and what stands apart
-- afterwards.
pub mod Settled
pub mod Choice
pub mod Pairs
pub mod Round
pub mod Tidying
pub mod Apart
