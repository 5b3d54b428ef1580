-- The saved form and the load report of a roster, by those of the table that it is of.
pub mod Forms
