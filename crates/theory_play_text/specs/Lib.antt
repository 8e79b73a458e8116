pub mod Lines
pub mod Printable
pub mod Report
pub mod Statements
