pub mod FixedNames
pub mod ImportOrder
pub mod Known
pub mod Lists
pub mod Names
pub mod Qualified
pub mod RootNames
pub mod Seen
