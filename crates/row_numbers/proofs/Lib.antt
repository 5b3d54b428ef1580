-- The laws of the rows' numbers: ports in use, loads out of a load report, and the number of a row by what it shows.
mod Using
mod Loads
mod Rows
