-- An entry of a roster as two numbers, and lists of such numbers.
pub mod Entry
pub mod Lists
