pub mod Dropped
pub mod Passed
