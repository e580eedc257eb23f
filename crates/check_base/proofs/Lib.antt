pub mod ReasonLaws
pub mod FileLaws
