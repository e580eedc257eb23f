pub mod NumberLaws
pub mod TableLaws
pub mod TestLaws
pub mod MatchLaws
pub mod ActionLaws
pub mod MessageLaws
pub mod Decoded
pub mod Written
