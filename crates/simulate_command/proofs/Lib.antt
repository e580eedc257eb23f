pub mod TrafficLaws
pub mod CourseLaws
pub mod RecordLaws
pub mod SimulateLaws
