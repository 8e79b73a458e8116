pub mod RefusalLemmas
pub mod WordCounts
