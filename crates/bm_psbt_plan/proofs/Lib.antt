pub mod Placed
pub mod FoundOutputs
pub mod Signers
pub mod Telling
pub mod InRun
