pub mod Tags
pub mod TagFaults
