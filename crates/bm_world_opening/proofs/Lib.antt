pub mod Openings
pub mod NotCompiled
