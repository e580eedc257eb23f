pub mod PlanText
pub mod TablesText
pub mod Uses
pub mod Tokens
