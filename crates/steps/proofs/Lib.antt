-- The laws of the steps: what sound changes keep, one operation after another, taking down and setting up, carrying out records, what serves
-- an opening, the five cases, the searches, step 2's place, the candidates, step 3's two claims, the plan, a pair that can share both ways,
-- looks; and closing.
pub mod Sound
pub mod Chain
pub mod Placing
pub mod Carrying
pub mod Again
pub mod Serves
pub mod Five
pub mod Searches
pub mod ShorterWay
pub mod Candidates
pub mod Step3
pub mod Steps
pub mod BothWays
pub mod Looks
pub mod Closing
