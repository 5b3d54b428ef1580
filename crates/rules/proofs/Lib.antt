-- The laws of the ring rules: the test as facts, tables from before E1, which places stay unlit, what fits at a place, what the ports permit, and
-- the paper's counting; and the loops that test numbers and ports in use.
pub mod Rules
pub mod BeforeE1
pub mod Unlit
pub mod Fits
pub mod Allowable
pub mod Counting
pub mod Pair
pub mod Lane
pub mod Full
pub mod EachPlace
pub mod Decided
pub mod Distinct
pub mod InUse
pub mod Fresh
