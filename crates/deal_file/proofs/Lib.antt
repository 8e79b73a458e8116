pub mod EntryLemmas
pub mod LineLemmas
pub mod NeedLemmas
pub mod TextLemmas
pub mod WholeLemmas
