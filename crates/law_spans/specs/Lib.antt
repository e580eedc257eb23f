pub mod Spans
pub mod TimedWalks
pub mod Certificates
pub mod Certified
pub mod Cuts
pub mod Runs
pub mod Laws
