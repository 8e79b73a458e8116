mod Making
mod Sync
