mod Lists
mod Firsts
mod Stepping
pub mod Whole
