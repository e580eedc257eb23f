pub mod Rounds
pub mod Ranges
