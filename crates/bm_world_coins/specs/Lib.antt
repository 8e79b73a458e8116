pub mod Coined
