pub mod EntryLemmas
pub mod NameLists
pub mod BranchStep
