pub mod OneBreak
pub mod RowLaws
pub mod AddressLaws
pub mod ListingLaws
pub mod PathsLaws
