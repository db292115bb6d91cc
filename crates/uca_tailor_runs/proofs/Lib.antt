pub mod Refusals
pub mod PlanAnswers
