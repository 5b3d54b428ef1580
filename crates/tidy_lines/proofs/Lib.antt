-- The laws of the lines: the first from its words with the numbers put in, and the moves one after another.
mod Words
mod Moves
