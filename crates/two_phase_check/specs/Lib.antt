pub mod Agreements
pub mod InForce
pub mod Judged
pub mod Kept
