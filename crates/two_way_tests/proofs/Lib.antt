pub mod Turnable
