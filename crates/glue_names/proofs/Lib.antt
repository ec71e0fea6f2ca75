pub mod Called
pub mod ClosureNames
pub mod EachOnce
pub mod GivenNames
pub mod Globals
pub mod MappedLists
pub mod SameNames
mod SeenNames
pub mod TakenNames
