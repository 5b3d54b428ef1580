-- The laws of reading, writing and the load report of a roster.
pub mod Forms
