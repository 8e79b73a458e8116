pub mod RuleLemmas
pub mod Lines
pub mod Boards
pub mod Branches
pub mod Numbers
pub mod Rounded
pub mod Steps
pub mod Tried
