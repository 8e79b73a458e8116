mod Ends
mod Networks
mod Outputs
mod Poor
mod Shown
mod Unsigned
