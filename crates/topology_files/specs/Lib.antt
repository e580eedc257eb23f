pub mod Faults
pub mod Beside
pub mod Topology
