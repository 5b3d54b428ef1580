-- What a host asks of a roster by node.
pub mod Lookups
