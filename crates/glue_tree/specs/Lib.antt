pub mod FixedWords
pub mod Leaves
pub mod Operands
pub mod Plainly
pub mod Spelling
pub mod Term
pub mod TreeMeaning
