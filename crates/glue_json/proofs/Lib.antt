pub mod Lists
pub mod OneKey
