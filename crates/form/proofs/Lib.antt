-- The laws of the saved form: its parts, written and read back, read and written back, its length; then the laws of the whole, and forms from before E2 and E1.
pub mod Numbers
pub mod MapBytes
pub mod Ports
pub mod FieldMap
pub mod Trip
pub mod Fields
pub mod Unique
pub mod Tables
pub mod Length
pub mod Laws
pub mod Agreeing
pub mod BeforeE2
pub mod BeforeE1
