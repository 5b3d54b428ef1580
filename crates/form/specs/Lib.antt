-- The definitions of the saved form: numbers as bytes, the bytes of a table, and reading them, now, before E2 and before E1.
pub mod Bytes
pub mod Form
pub mod Most
pub mod Reader
pub mod Reading
pub mod BeforeE2
pub mod BeforeE1
