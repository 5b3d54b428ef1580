-- The laws of the lines of nodes: the circuits to a node, entered by number, each once and rising; the answers from their words; and the nodes one
-- after another.
pub mod Arrived
pub mod Rising
mod Slots
mod Copying
mod To
mod Nodes
