mod Networks
pub mod FileLaws
mod BlockLaws
mod DriveLaws
mod RunningLaws
mod AnsweredLaws
mod PromiseLaws
