pub mod Drivers
pub mod Calls
pub mod Laws
pub mod Inside
pub mod Answers
pub mod Agreement
