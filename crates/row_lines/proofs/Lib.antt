-- The laws of the lines: each from its words with the numbers put in, and the entries one after another.
mod Words
mod Entries
