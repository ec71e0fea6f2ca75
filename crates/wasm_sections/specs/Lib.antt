pub mod Replaced
pub mod Going
