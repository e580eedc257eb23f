pub mod TableLaws
pub mod GateLaws
pub mod MissLaws
pub mod SeenLaws
pub mod KeepLaws
