pub mod Check
pub mod PsbtFiles
pub mod Plan
pub mod Audit
pub mod Psbt
pub mod Counts
pub mod Make
pub mod Auto
