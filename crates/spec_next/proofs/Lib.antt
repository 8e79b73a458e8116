pub mod RunVectors
pub mod Vectors
pub mod RequirementVectors
pub mod JsonVectors
