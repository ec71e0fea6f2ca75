pub mod PackedAgain
pub mod Short
pub mod Spelled
