-- The definitions of the moves: records, the list that a host lends, then those of a tidying, and moves appended.
pub mod Records
pub mod Lent
pub mod MoveList
pub mod Appends
