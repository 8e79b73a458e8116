pub mod Cost
pub mod Costs
pub mod Covered
pub mod ScriptSizes
