mod ForeignNames
pub mod GroupedFacts
mod Grouping
pub mod LineFacts
mod Placing
pub mod Shown
pub mod TextsFacts
pub mod VendorFacts
