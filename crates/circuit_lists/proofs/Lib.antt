-- How a loop over the places gathers their circuits.
pub mod Gathering
