-- The room that the answer to a line takes.
pub mod Room
