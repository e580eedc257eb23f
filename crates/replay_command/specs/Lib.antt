pub mod Names
pub mod Replayed
pub mod Promise
