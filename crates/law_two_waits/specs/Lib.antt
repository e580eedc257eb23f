pub mod TwoWaits
