pub mod Kept
pub mod Filling
pub mod Ends
