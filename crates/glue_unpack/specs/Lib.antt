pub mod Putting
pub mod Unpacking
