pub mod Configured
pub mod Generating
pub mod GlobalName
pub mod Listed
pub mod Plan
pub mod Setting
pub use Rattle.glue_context.specs.Rewritten
pub use Rattle.glue_ends.specs.Causes
pub use Rattle.values.specs.Count
pub use Rattle.glue_ends.specs.Listing
pub use Rattle.glue_ends.specs.Taking
pub use Rattle.glue_lower.specs.Lowering
pub use Rattle.glue_shared.specs.declared.description as description
pub use Rattle.glue_shared.specs.declared.settings as settings
pub use Rattle.glue_faults.specs.declared.fault as fault
pub use Rattle.glue_faults.specs.Named
pub use Rattle.glue_prepare.specs.declared.prepared as prepared
pub use Rattle.glue_prepare.specs.Prepared
pub use Rattle.wasm_core.specs.Contents
pub use Rattle.wasm_emission.specs.Emission
pub use Rattle.wasm_core.specs.Parsing
pub use Rattle.wasm_core.specs.declared.faults as faults
pub use Rattle.wasm_emission.specs.declared.faults as emit_faults
