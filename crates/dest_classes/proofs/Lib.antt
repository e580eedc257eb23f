pub mod ClassLaws
pub mod RisingLaws
pub mod AtomLaws
pub mod TouchedLaws
pub mod MapLaws
pub mod EntryLaws
