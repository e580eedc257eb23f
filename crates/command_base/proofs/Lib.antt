pub mod DialogueLaws
pub mod MeaningLaws
pub mod RunLaws
pub mod AnswerLaws
pub mod JudgementLaws
pub mod WholeLaws
