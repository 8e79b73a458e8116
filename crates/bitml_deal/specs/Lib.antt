pub mod Opens
pub mod Named
pub mod Later
pub mod Dealt
pub mod Endorsed
