pub mod Filed
pub mod Large
