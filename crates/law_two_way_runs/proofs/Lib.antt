pub mod Flags
pub mod Undone
pub mod Turning
pub mod NeverBack
pub mod Inverses
pub mod Consistent
