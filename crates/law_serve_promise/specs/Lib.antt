pub mod Told
pub mod Running
pub mod Answered
pub mod Promise
