pub mod Filled
pub mod Finishes
pub mod Refusals
