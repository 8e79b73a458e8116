pub mod Told
pub mod Items
