-- The laws of rows.
pub mod Found
pub mod Rows
pub mod Held
