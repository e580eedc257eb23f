pub mod LineLaws
pub mod KeptLaws
mod BlockLaws
