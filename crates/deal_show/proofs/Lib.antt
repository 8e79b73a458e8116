mod Flat
mod Low
mod ShownTold
