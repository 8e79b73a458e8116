pub mod Prospects
pub mod Lines
