pub mod Audited
pub mod Found
pub mod Lines
