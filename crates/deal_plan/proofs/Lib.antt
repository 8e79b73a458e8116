pub mod Told
pub mod PsbtsTold
