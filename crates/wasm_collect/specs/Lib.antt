pub mod Reach
pub mod Edges
pub mod Collected
