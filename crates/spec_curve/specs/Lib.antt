pub mod Field
pub mod Key
pub mod Point
pub mod Signature
pub mod Verify
