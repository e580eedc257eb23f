pub mod Names
pub mod Driving
pub mod Reports
pub mod Driven
pub mod Promise
