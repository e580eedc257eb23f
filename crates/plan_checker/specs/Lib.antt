pub mod Fits
pub mod Checking
pub mod Rewrites
