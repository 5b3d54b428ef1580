-- What is printed in answer to a request, as bytes.
pub mod Answers
pub mod Filled
