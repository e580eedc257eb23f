pub mod KeyOrder
pub mod Steps
pub mod SameClasses
pub mod Tried
pub mod Targets
