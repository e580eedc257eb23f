pub mod PreparedTables
pub mod Loading
pub mod Ends
pub mod Trials
pub mod Steps
pub mod Filling
pub mod ByKind
pub mod Sound
