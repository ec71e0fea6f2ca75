pub mod AdapterMeaning
pub mod Callbacks
pub mod Exported
pub mod Needed
pub mod Resolving
pub mod Room
pub mod Stack
