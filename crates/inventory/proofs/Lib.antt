-- The laws of the lines: each from its words with the numbers put in, and the lists number by number and place by place.
pub mod Words
pub mod Loads
pub mod Places
