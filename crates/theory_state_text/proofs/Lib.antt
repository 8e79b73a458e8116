mod Ends
mod Known
mod Lined
mod Named
mod ReadBack
mod Requirements
mod StateLines
mod Tells
