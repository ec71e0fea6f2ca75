pub mod Frames
pub mod Entries
pub mod Parts
pub mod Kinds
pub mod Sections
pub mod Grammar
pub mod Customs
pub mod Spelling
