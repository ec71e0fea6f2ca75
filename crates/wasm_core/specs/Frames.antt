-- The frames of a file's sections, as the crate below has them.
pub use Rattle.wasm_file.specs.Frames.{frames_of}
