pub mod DutyLaws
pub mod ChainLaws
pub mod SetLaws
pub mod RowLaws
pub mod RangeLaws
pub mod MeetsLaws
