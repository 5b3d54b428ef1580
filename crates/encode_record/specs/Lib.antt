-- The fields of a circuit in two parts.
pub mod Fields
