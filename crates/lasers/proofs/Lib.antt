-- The lines of an answer, from their words with the numbers put in.
mod Words
