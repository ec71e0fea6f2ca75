mod Pairs
mod Outcomes
