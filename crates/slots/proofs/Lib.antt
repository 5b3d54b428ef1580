-- The laws of what one place holds.
pub mod Contents
