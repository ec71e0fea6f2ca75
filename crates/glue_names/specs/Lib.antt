pub mod Given
pub mod Handed
pub mod Naming
pub mod Omitted
pub mod Once
pub mod Publishing
pub mod Taken
