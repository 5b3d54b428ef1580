-- What is printed of a ring: its saved form, its loads, one link, its circuits.
pub mod Lines
