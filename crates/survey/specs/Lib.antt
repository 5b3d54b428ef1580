-- What one pass over the places finds.
pub mod Survey
