pub mod DrawSteps
pub mod EntrySteps
pub mod EventLines
pub mod GiftSteps
