pub mod Changed
pub mod Kept
pub mod Named
pub mod Joined
