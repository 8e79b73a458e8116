pub mod ByteLemmas
pub mod ListLemmas
pub mod MapLemmas
