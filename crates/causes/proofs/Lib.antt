-- The laws of port fields: judged as the list is.
pub mod Fields
