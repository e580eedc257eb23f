pub mod Faults
pub mod Changes
pub mod Evidence
pub mod Plans
pub mod FewPicks
