pub mod Served
pub mod Takes
pub mod Stops
pub mod Serving
