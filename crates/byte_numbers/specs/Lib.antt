-- Numbers and their widths, and the map by its words.
pub mod Widths
pub mod MapWords
