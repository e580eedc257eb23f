pub mod KeptLaws
pub mod FailureLaws
pub mod JudgeLaws
pub mod FillLaws
pub mod PackLaws
