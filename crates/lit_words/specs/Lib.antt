-- The lit places as two words, the words with one place more, and the lowest unlit place by them.
pub mod Lit
pub mod With
pub mod Unlit
pub mod Sets
