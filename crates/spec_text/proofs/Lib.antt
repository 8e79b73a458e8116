pub mod Vectors
pub mod RunVectors
pub mod DrawVectors
