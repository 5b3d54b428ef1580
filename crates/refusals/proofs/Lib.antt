-- The laws of the refusals: a verdict by its causes; an answer that goes by causes is the answer by their numbers; numbers are bytes.
pub mod Judged
pub mod Reasons
pub mod Bytes
