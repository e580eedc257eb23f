pub mod Rows
pub mod Addresses
pub mod Lines
pub mod Listed
pub mod Promise
