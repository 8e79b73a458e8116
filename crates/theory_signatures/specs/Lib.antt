pub mod Bytes
pub mod Keys
pub mod Multiples
pub mod Published
pub mod Vectors
