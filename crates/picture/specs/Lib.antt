-- The room of a picture, and what its parts ask for.
pub mod Room
pub mod Drawn
