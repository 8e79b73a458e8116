pub mod PaidLemmas
pub mod UsedLemmas
pub mod ShownLemmas
