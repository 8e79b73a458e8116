mod Causes
mod Few
mod Files
mod Headlines
mod Replied
mod Shown
