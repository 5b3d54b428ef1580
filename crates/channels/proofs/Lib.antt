-- The laws of the places: place by place, under a list of changes, by number, of the nonsharing circuits, and of the lit places.
pub mod Places
pub mod Puts
pub mod Found
pub mod Numbers
pub mod Nonsharing
pub mod LitPlaces
