pub mod Faults
pub mod EventLines
pub mod Schedules
pub mod Replays
pub mod EventTexts
pub mod Traces
