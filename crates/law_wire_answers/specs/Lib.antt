pub mod Exchanges
pub mod Answering
pub mod Turning
pub mod Failing
