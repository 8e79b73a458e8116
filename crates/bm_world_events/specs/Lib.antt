pub mod Advertising
