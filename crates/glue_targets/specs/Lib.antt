pub mod PublicTree
pub mod Published
pub mod RoleWords
pub mod Targets
