pub mod GoodLaws
pub mod InverseLaws
pub mod RangeLaws
