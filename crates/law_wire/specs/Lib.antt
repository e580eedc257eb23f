pub mod Carried
pub mod Network
pub mod Laws
