pub mod Bounded
pub mod Choosing
pub mod Reasons
pub mod Witnessed
pub mod FewChoices
