pub mod RankLaws
pub mod SameWalks
pub mod TouchLaws
pub mod PositionLaws
pub mod LeastLaws
pub mod AtomMarkLaws
