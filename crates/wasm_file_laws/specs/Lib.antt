pub mod FileFits
pub mod CustomFits
