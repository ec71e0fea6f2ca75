pub mod Lowering
