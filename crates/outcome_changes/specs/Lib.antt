pub mod Giving
pub mod Trials
