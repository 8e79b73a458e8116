pub mod Keyed
pub mod Again
pub mod Fitting
pub mod Joined
pub mod Listed
pub mod Spelled
