-- The laws of bytes as they come: the cut into reads does not matter, and the whole program by its calls' promises.
pub mod Cuts
pub mod Feeding
pub mod ByLines
pub mod Program
pub mod Cases
