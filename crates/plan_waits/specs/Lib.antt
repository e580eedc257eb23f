pub mod WaitsFaults
pub mod Waits
pub mod PlanWaits
pub mod WaitsText
