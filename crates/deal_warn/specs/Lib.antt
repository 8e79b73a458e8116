pub mod Sized
pub mod Warned
