mod Coming
mod Drawing
pub mod Fits
mod Functions
pub mod Linked
pub mod Outer
pub mod Outside
mod Rowwise
mod Runs
mod Stacks
