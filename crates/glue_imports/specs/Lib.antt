pub mod Roots
pub mod Intrinsics
pub mod Preludes
pub mod Given
pub mod Expressions
pub mod Definitions
