-- The definitions of the ring table: the table, making, opening, closing and tidying, an answer in numbers, demand 3, what a tidying does, and
-- the numbered reasons of each call.
pub mod Table
pub mod Making
pub mod Opening
pub mod Closing
pub mod Tidying
pub mod Answer
pub mod Demand3
pub mod Tidies
pub mod Numbers
