-- What writing answers, and what it leaves in the lent bytes.
pub mod Answer
