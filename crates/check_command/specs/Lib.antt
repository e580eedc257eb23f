pub mod AcceptedLine
pub mod Checks
pub mod Promise
