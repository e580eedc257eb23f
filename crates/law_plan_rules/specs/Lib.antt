pub mod PlanRules
