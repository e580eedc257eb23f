pub mod Showing
pub mod Explaining
pub mod Steps
pub mod Stages
pub mod Updates
