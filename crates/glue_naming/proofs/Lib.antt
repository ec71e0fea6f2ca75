pub mod AllNames
pub mod Arranged
pub mod CalledNames
mod Draws
pub mod EnumNames
pub mod Functions
mod InOrder
mod Kept
pub mod Namespaces
mod Reexports
pub mod Reserved
mod WantedNames
