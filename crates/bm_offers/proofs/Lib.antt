pub mod FewBranches
pub mod Steps
