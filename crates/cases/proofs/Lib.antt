-- The cases of documents 01 and 02 hold.
pub mod Cases
