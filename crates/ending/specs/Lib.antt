-- Which circuit would have to end: the definition, the answer in numbers, the statement of the laws, and the search that the code makes.
pub mod Ending
pub mod Answer
pub mod LowestLive
pub mod Search
