-- Kinds of cases, then the table of them.
pub mod Case
pub mod Table
