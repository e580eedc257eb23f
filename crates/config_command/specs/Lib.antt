pub mod Names
pub mod Lines
pub mod Verdicts
pub mod Configs
pub mod Promise
