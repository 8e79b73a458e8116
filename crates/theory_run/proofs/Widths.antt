pub mod BranchWidths
pub mod Fitting
pub mod Putting
