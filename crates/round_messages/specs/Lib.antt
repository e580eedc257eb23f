pub mod Requests
pub mod ToSwitch
