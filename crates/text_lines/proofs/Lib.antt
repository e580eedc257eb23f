pub mod LineTurns
