pub mod Frames
pub mod Contents
pub mod Parsing
pub mod Edits
pub mod Remainder
pub use Rattle.wasm_types.specs.declared.ids as ids
pub use Rattle.wasm_types.specs.declared.types as types
pub use Rattle.wasm_file.specs.declared.entries as entries
pub use Rattle.wasm_ops.specs.declared.ops as ops
pub use Rattle.wasm_code.specs.declared.body as body
