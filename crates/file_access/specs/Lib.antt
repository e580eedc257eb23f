pub mod Causes
pub mod Outside
pub mod Shelf
pub mod Stored
pub mod Drawer
pub mod Filled
