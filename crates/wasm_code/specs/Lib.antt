pub mod Locals
pub mod Numbers
pub mod Code
pub mod Spelling
