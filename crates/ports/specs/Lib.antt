-- Port counts and the ring rules on them.
pub mod Ports
