pub mod PeerStates
pub mod Peers
pub mod Drivers
pub mod Calls
pub mod Laws
pub mod Words
pub mod Sending
pub mod Inside
