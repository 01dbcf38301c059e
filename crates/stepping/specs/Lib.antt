pub mod Twins
pub mod PlanTwin
