pub mod Keeping
pub mod Rounds
pub mod Gates
pub mod Surveys
