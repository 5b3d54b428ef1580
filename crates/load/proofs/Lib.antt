-- The laws of the load report: the loads from link to link, counting at the ends, the running load, filling the buffer, the answers, and
-- the most that a link carries.
pub mod NextLink
pub mod Counting
pub mod Running
pub mod Filled
pub mod Answers
pub mod Loads
