pub mod UpdateAnswers
pub mod PlannedLaws
pub mod NewPlanLaws
