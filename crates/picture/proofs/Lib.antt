-- The laws of the picture: the limits of a table.
mod Limits
