-- The laws of the roster.
pub mod Filing
pub mod Standings
pub mod Back
pub mod Arranged
pub mod Listing
pub mod Turning
pub mod Building
pub mod Holding
