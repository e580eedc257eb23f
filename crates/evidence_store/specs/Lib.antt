pub mod Stored
pub mod State
pub mod Numbers
pub mod Keys
pub mod Kept
pub mod Found
pub mod Guards
pub mod Last
