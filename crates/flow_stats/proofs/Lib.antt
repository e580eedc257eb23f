pub mod EntryLaws
pub mod Destinations
pub mod AreaLaws
pub mod MarkLaws
pub mod IndexLaws
pub mod TableUpdates
pub mod UserRules
pub mod UserTables
