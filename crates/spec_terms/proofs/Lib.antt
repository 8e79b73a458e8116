pub mod PathLemmas
pub mod StandLemmas
pub mod Vectors
