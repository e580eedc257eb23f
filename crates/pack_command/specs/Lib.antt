pub mod Names
pub mod Chosen
pub mod Packed
pub mod PackFiles
pub mod Promise
