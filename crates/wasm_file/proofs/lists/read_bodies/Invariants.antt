use Rattle.std.proofs.Common.{◌≡◌, drop, length}
use Rattle.wasm_bytes.specs.Reading.{for_each}
use Rattle.wasm_bytes.proofs.Loop.{with_front}
use Rattle.wasm_file.specs.Sections.{function_body}
use Rattle.wasm_file.proofs.lists.read_bodies.Given as goal

abbrev pub invariant-loop-ty : goal.invariant-loop-ty
invariant-loop-ty l = record {
  value : with_front l.found (for_each (drop l.ty-index l.functions) (function_body l.counts l.types) l.reader) ≡ for_each l.functions (function_body l.counts l.types) l.fn.reader;
  len : length l.found ≡ l.ty-index;
}
