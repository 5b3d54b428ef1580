-- The pair that step 3 finds.
pub mod Pairs
