pub mod Wired
pub mod Promise
