pub mod Names
pub mod ReasonLines
pub mod Checks
