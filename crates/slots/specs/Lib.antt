-- What one place holds.
pub mod Slot
