pub mod OrderLaws
pub mod StepLaws
pub mod SwitchLaws
pub mod LengthLaws
pub mod WithoutLaws
pub mod BoundaryLaws
