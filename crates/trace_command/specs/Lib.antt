pub mod Names
pub mod Traced
pub mod Promise
