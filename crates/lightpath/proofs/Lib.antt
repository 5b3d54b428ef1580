-- The laws of the geometry: circuits by their fields, places, links, a lightpath from link to link, the shorter way, and which two can share
-- and could before E1.
pub mod Same
pub mod Places
pub mod Links
pub mod Onward
pub mod ShorterWay
pub mod Share
pub mod BeforeE1
