-- Bytes written into a lent buffer; and text of a free layout.
pub mod Put
pub mod Appended
