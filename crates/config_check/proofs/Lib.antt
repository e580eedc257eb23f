pub mod ChainLaws
pub mod BreakLaws
pub mod AddressLaws
pub mod JudgeLaws
