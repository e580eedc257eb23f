pub mod NumberLaws
pub mod TrialLaws
pub mod AppliedLaws
pub mod GivingLaws
