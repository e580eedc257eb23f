pub mod Outcomes
pub mod Paths
pub mod UserConfigs
pub mod Walked
