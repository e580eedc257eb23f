pub mod Faults
pub mod Configuration
pub mod RuleTrees
pub mod ConfigText
