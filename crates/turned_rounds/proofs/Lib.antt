pub mod BatchLaws
pub mod NumberLaws
