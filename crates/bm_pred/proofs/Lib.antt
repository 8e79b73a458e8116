pub mod Deep
pub mod HeldLemmas
pub mod WithinLemmas
pub mod Far
