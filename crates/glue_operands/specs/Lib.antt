pub mod Spelling
pub mod Plainly
pub mod Form
pub mod Nesting
