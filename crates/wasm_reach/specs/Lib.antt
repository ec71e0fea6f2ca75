pub mod Marks
pub mod Found
pub mod Reach
pub mod Reached
