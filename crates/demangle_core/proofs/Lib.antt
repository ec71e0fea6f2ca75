mod Symbols
mod Numbers
mod Steps
