pub mod Drawn
pub mod FirstFree
mod KeySets
mod NumberMaps
mod Scopes
