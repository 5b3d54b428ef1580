-- What stands at the places of a table: all of them, changes, a closing, and the nonsharing circuits; and changes by value.
pub mod Channels
pub mod Change
pub mod Changes
pub mod Closing
pub mod Nonsharing
