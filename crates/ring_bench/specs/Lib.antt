-- The checksum of lookups by node, and what a scan of the places finds.
pub mod Lookups
pub mod Found
