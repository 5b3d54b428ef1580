-- The laws of the ring table: what the ring rules say of it, what is refused, the answers in numbers, demand 3, step 2's place, that making,
-- opening and closing keep the rules, and what a tidying does.
pub mod TableRules
pub mod Causes
pub mod Placing
pub mod Deciding
pub mod Numbers
pub mod Demand
pub mod ShorterWay
pub mod Closing
pub mod Making
pub mod Rounds
