pub mod Digests
pub mod ScriptBytes
pub mod Fitting
pub mod Outputs
pub mod Sizes
pub mod Small
pub mod ReadBack
pub mod InRuns
