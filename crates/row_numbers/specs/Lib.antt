-- The numbers of the picture's rows, and the loads among them out of a load report.
pub mod Numbers
pub mod Loaded
