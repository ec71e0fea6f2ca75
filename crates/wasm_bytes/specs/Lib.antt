pub mod Reading
pub mod Numbers
pub mod Signed
pub mod Gives
pub mod Reads
pub mod Items
pub mod Spelling
