pub mod Places
pub mod Declared
pub mod Kept
pub mod Collected
pub mod Nameless
