-- Ports in use, and free ports.
pub mod PortsUsed
