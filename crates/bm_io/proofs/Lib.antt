pub mod FileLemmas
pub mod Pieces
pub mod Walks
