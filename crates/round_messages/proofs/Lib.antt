pub mod Requests
pub mod BySwitch
pub mod Marking
pub mod Places
