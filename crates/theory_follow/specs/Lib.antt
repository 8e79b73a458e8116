pub mod ChainLines
pub mod LeftOut
pub mod LiveMaps
pub mod Taken
