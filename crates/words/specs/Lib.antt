-- The words of a line, reading its next word as a number, and what it leads to word by word.
pub mod Split
pub mod Field
pub mod SignedField
pub mod Parse
