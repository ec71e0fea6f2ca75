pub mod Reading
pub mod Adapters
pub mod Imports
pub mod Members
pub mod Description
