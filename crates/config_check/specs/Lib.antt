pub mod Broken
pub mod Classed
pub mod Ends
pub mod Everywhere
pub mod Met
