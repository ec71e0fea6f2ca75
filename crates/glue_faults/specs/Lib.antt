pub mod Clash
pub mod First
pub mod Named
