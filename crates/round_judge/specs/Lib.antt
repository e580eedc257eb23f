pub mod Goals
pub mod Evidence
pub mod Visits
pub mod Judged
