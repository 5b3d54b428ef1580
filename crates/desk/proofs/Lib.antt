-- A line, run; and demand 3 in what it prints.
pub mod Running
pub mod Opens
