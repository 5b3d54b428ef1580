-- What an opening and a closing do to the entries of a roster, in place.
pub mod InPlace
