pub mod UserRules
