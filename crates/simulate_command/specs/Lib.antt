pub mod Names
pub mod Simulations
pub mod Simulated
pub mod Promise
