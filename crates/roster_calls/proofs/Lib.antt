-- The laws of the calls: a roster that stands and its table, a call on a table lifted to a roster, then each call.
pub mod Standing
pub mod Lifted
pub mod Opens
pub mod Closes
pub mod Makes
pub mod Tidies
