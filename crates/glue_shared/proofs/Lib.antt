mod Grown
mod FirstEntries
mod Owned
pub mod Sets
pub mod Texts
