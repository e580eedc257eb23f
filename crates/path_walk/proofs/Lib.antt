pub mod PathLaws
pub mod StayLaws
pub mod WalkedLaws
