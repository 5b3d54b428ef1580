-- Choosing, counting, counting by key, and searching.
pub mod Choice
pub mod Count
pub mod Tallied
pub mod Search
