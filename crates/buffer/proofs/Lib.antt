-- The laws of writes, one after another.
pub mod Put
pub mod Chain
pub mod Appending
