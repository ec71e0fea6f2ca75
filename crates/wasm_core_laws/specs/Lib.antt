pub mod ModuleFits
pub mod Again
pub mod Renumbered
