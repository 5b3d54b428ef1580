-- The one-link question of a ring table, and what one that is not refused keeps to.
pub mod Link
pub mod Asked
