pub mod Adapters
pub mod Called
pub mod Pairs
pub mod Stack
pub use Rattle.glue_steps.specs.Exported
pub use Rattle.glue_steps.specs.Resolving
pub use Rattle.glue_steps.specs.declared.step as step
