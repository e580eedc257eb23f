pub mod Search
pub mod Ends
pub mod Updates
pub mod Standing
pub mod Failures
pub mod Searching
