pub mod LinkLaws
pub mod EntryLaws
pub mod PortLaws
pub mod NamedLaws
pub mod GrowthLaws
