pub mod AgreeLaws
pub mod StrayLaws
pub mod FollowLaws
pub mod InForceLaws
pub mod JudgedLaws
pub mod StandLaws
pub mod KeepLaws
