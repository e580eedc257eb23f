pub mod Sizes
pub mod Summaries
pub mod Promise
