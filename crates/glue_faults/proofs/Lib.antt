pub mod After
pub mod Apart
pub mod Clashes
pub mod First
