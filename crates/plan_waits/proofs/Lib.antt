pub mod WaitTurns
pub mod Searching
pub mod Standing
pub mod Reading
pub mod TextLaws
pub mod TextAgain
pub mod Rows
