-- The calls on a roster, each by the old one on the table that it is of; demand 3 of an opening, and what a tidying does.
pub mod Calls
pub mod Demand3
pub mod Tidies
