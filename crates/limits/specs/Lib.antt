-- The numbers that limit a ring.
pub mod Limits
