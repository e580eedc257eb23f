pub mod OrderLaws
pub mod KeyLaws
pub mod RankLaws
pub mod ReadLaws
pub mod ValidChanges
pub mod ValidEvidence
pub mod ValidPlans
pub mod TurnLaws
