pub mod Enums
pub mod Fronts
pub mod Notes
pub mod Tree
pub mod Printed
pub mod Sound
pub mod Kept
