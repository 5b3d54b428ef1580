-- The laws of tests, comparisons, searches, weights, counts by key and sums, of the loops that search and add, and of integers.
pub mod Bools
pub mod Compare
pub mod Branch
pub mod Search
pub mod Below
pub mod Scan
pub mod Descent
pub mod Pairs
pub mod Arrays
pub mod Weigh
pub mod Tallied
pub mod Sums
pub mod Fold
pub mod Integers
