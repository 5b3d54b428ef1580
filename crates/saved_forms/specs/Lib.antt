-- Saved forms in lent bytes.
pub mod Saved
