pub mod Names
pub mod Imported
pub mod Promise
