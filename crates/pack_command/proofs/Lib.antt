pub mod StandLaws
pub mod PlanLaws
pub mod TreeLaws
pub mod PackedLaws
pub mod ChosenLaws
