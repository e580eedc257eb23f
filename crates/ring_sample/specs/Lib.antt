pub mod Ring
pub mod RingTrees
