pub mod NoPlanLines
pub mod Ends
pub mod Planned
pub mod NewPlans
pub mod Promise
