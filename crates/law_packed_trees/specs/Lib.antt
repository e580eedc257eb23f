pub mod TreeUpdates
pub mod Bounds
