pub mod Sizes
pub mod Pieces
pub mod Verdicts
