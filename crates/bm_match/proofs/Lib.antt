pub mod Selecting
pub mod FewBranches
pub mod WholeRun
