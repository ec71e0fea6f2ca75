pub mod Asked
pub mod ItemNames
