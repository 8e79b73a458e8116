pub mod Texts
pub mod Completeness
pub mod Statuses
pub mod Runs
pub mod Outcomes
pub mod FurtherTexts
pub mod Written
pub mod Ended
pub mod Auto
pub mod Strategies
pub mod Headlines
mod Example
pub mod Kept
