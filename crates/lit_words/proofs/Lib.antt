-- The laws of the words of the lit places: the bits of one word, the places of both and of one direction, the words as they are made, from
-- the last place down or in any order, and places from a limit on.
pub mod Bits
pub mod LitBits
pub mod Ways
pub mod Built
pub mod Added
pub mod NoneLit
