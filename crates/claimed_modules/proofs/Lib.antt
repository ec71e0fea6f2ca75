pub mod Described
pub mod Foreign
