pub mod Causes
pub mod Listing
pub mod Memory
pub mod Taking
