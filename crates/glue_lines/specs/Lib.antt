pub mod Grouped
pub mod Lines
pub mod Texts
pub mod Vendor
