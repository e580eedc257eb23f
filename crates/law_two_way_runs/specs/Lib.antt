pub mod States
pub mod Runs
pub mod Inverse
pub mod Laws
