pub mod Paid
pub mod Brought
pub mod Shown
