pub mod Networks
pub mod Growth
pub mod Ends
pub mod Named
pub mod Seen
pub mod References
