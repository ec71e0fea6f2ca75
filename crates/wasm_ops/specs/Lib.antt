pub mod Shapes
pub mod Operands
pub mod Numbers
pub mod Spelling
