pub mod ReplayLaws
pub mod Printed
pub mod LinesAgain
pub mod EventsAgain
pub mod TracesAgain
pub mod RunLines
