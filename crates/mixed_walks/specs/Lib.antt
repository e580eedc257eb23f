pub mod Chained
pub mod Walks
pub mod Walking
pub mod Marked
