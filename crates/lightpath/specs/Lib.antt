-- The definitions of the geometry: places, then circuits; the sharing rule before E1; and the ends of lightpaths on a walk.
pub mod Place
pub mod Circuit
pub mod BeforeE1
pub mod Ends
