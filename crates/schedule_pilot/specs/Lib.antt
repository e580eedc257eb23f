pub mod Offered
pub mod Agendas
pub mod Counts
pub mod Counted
pub mod Ends
pub mod Driving
pub mod Laws
