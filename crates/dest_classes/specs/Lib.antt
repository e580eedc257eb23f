pub mod Classes
pub mod Atoms
pub mod Numbered
