mod Loop
mod Filled
