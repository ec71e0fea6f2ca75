pub mod Described
pub mod Public
