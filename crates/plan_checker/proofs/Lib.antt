pub mod InForce
pub mod Refuted
pub mod Stages
pub mod PrefixLaws
pub mod GoodLaws
pub mod FirstReasons
pub mod PassLaws
pub mod LastLaws
