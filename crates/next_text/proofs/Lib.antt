pub mod Appended
pub mod Deposits
pub mod Nothing
pub mod Phases
