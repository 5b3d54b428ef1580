-- The laws of which circuit would have to end: the lowest of some circuits, who frees a port, the answer by the verdict on a request and in
-- numbers, 02's sentences, the search from the highest place down, and what it answers.
pub mod Picked
pub mod Freeing
pub mod Verdicts
pub mod Numbers
pub mod WhoEnds
pub mod Searching
pub mod Judging
