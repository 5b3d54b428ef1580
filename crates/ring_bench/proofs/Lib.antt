-- The laws of the loads counted afresh, of what a tidying gives, and of lookups by node.
pub mod Counted
pub mod Rowed
pub mod Scanned
pub mod Tidied
