-- What a pass over the entries of a roster sees.
pub mod Pass
