-- A tidying by value: the unlit places that a round can use, the search for a pair, the next round, a pair joined, and the rounds together.
pub mod Room
pub mod Search
pub mod Next
pub mod Joined
pub mod Tidied
