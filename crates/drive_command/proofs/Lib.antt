pub mod LogLaws
pub mod ReportLaws
pub mod InputLaws
pub mod CarriedLaws
pub mod DriveLaws
