pub mod Refusals
pub mod Standing
