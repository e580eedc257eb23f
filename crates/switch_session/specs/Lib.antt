pub mod Fronts
pub mod Channels
pub mod Seen
pub mod Laws
pub mod Causes
pub mod Lines
