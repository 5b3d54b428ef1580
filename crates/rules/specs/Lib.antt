-- The definitions of the ring rules, now and before E1, and of what the ports permit; and the places tested one by one, and circuits counted by
-- node.
pub mod Rules
pub mod BeforeE1
pub mod Allowable
pub mod EachPlace
pub mod Tallies
