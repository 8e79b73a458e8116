pub mod AsCompiled
pub mod Choices
mod LastStep
pub mod Secrets
pub mod Json
pub mod PlanTold
pub mod WeighTold
