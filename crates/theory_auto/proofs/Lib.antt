mod Added
pub mod FewOutputs
mod HashlessRules
pub mod EventEnds
mod Longer
mod Reread
mod Rounds
pub mod Shorter
mod Tries
pub mod Continued
pub mod Honest
pub mod OwnRules
pub mod Printed
mod RulePaths
pub mod Spelled
