pub mod Rounds
pub mod Breaking
pub mod Searches
pub mod Trails
pub mod Broken
pub mod Surveys
pub mod PlaceSteps
