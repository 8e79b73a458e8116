mod Told
mod Recorded
