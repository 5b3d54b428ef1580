-- The definitions of the load report: the load of a link, what it grows and falls by from link to link, and the report of all; and the walk.
pub mod Load
pub mod NextLink
pub mod Report
pub mod Walk
