pub mod Audited
pub mod Nothing
