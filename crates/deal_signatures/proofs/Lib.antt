pub mod InputLemmas
pub mod KnownLemmas
pub mod PlaceLemmas
pub mod OneLemmas
pub mod RefusalLemmas
pub mod LowNumbers
pub mod Shapes
