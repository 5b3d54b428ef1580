-- The laws of lookups by node: a row gathered, what each lookup answers, and that it is what the table has.
mod Gathering
mod Lookups
pub mod Exact
