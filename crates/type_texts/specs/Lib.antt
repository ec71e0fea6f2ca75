pub mod Notes
pub mod TypeTexts
