pub mod Deposits
pub mod HonestSpends
pub mod Leaves
pub mod Left
pub mod LicensedEvents
pub mod LicensedSteps
pub mod Throughout
