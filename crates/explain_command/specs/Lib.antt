pub mod Explained
pub mod Promise
