pub mod Continued
pub mod OwnRules
pub mod Printed
pub mod RulePaths
pub mod Spelled
