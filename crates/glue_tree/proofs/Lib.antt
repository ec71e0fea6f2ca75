pub mod Meaning
pub mod Values
pub mod Names
pub mod Fit
pub mod Spacing
pub mod Starting
pub mod Functions
mod FixedHelper
mod OperandRows
pub mod Plain
mod Steps
