pub mod Spelling
pub mod Outer
pub mod Body
pub mod Binding
