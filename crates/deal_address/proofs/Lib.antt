pub mod Checksums
pub mod Scripts
pub mod Tests
