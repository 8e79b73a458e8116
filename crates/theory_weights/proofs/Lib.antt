mod NoLonger
pub mod Weighing
mod Full
mod Bounded
mod Adding
mod Fired
mod WholeRun
pub mod Sized
pub mod ByPosition
