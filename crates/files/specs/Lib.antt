-- What reading and writing a file answers.
pub mod Files
