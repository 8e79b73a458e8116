mod Defined
mod Known
mod Predicates
mod Worded
