pub mod Causes
pub mod Stands
pub mod StateAnswers
