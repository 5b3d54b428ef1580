-- The roster of a ring: its circuits by source node and then by number, the table that it is of, and what its lists hold.
pub mod Roster
pub mod Held
pub mod Listed
