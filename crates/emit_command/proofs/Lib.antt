pub mod Adding
pub mod Marks
pub mod Texts
pub mod Reading
pub mod EmitLaws
