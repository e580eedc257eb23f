pub mod Lines
pub mod Inside
pub mod Blocks
