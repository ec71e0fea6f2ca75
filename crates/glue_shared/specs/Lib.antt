pub mod Description
pub mod Paths
pub mod Roots
pub mod Names
pub mod Ids
pub mod Indexed
pub mod NameMap
pub use Rattle.values.specs.Count
