pub mod GrowthLaws
pub mod EvidenceLaws
pub mod VisitLaws
pub mod LastLaws
pub mod JudgingLaws
pub mod MetLaws
pub mod PickingLaws
