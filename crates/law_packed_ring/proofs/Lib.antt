pub mod RingClasses
pub mod RingBounds
pub mod RingRounds
pub mod RingRead
