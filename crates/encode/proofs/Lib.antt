-- The laws of writing: the records one after the other, the length of a form, its parts, and the answers.
pub mod Records
pub mod Lengths
pub mod FormParts
pub mod Answers
