pub mod Layout
pub mod Match
pub mod FlowMod
pub mod Actions
pub mod Messages
pub mod Refusals
pub mod Reading
