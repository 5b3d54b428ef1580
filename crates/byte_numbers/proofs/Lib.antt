-- The laws of numbers as bytes: written and read, the highest byte first; the words of the map, written and read.
pub mod NumbersWritten
pub mod NumbersRead
pub mod WordsWritten
pub mod WordsRead
