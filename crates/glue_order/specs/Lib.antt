pub mod Order
pub mod Walks
