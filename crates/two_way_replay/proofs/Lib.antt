pub mod ActionLaws
pub mod MayLaws
pub mod ReadAlike
pub mod ReplayedLaws
pub mod NeverTurned
pub mod PutBackLaws
