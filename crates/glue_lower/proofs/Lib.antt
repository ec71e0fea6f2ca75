pub mod Sections
pub mod Utf8
