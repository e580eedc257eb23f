pub mod Classes
pub mod Looked
pub mod Walks
pub mod Alike
pub mod Judges
