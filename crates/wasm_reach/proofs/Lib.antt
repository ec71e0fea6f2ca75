pub mod MarkSteps
pub mod SearchSteps
pub mod Reached
