pub mod Renumbering
pub mod Emission
