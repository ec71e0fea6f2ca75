pub mod Clash
pub mod Fixed
pub mod Named
pub mod Reexports
pub mod Roots
pub mod Sets
pub mod Things
