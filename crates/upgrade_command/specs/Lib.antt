pub mod Texts
pub mod Promise
