pub mod Kept
pub mod RoundKinds
pub mod Holds
pub mod Onward
pub mod Cut
pub mod Fewest
pub mod Rows
