-- The laws of saved forms as words and as bytes.
pub mod Forms
