-- The laws of printing: words with numbers put in, and one line after another.
pub mod Filling
pub mod Printing
