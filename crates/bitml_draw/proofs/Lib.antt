mod Causes
mod Few
mod Headlines
mod Shown
