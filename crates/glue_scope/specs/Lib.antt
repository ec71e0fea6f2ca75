pub mod Properties
pub mod Scope
pub use Rattle.glue_words.specs.Words
pub use Rattle.glue_words.specs.declared.item as item
