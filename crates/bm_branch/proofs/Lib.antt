mod Emitted
mod Shortness
