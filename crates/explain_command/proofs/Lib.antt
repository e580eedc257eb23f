pub mod CountLaws
pub mod EndLaws
pub mod SoundLaws
pub mod ScheduleLaws
pub mod AnswerLaws
pub mod SafeLaws
pub mod ExplainLaws
