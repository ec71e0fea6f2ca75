use Rattle.std.proofs.Common.{◌≡◌, drop}
use Rattle.wasm_file.specs.Frames.{preamble_of}
use Rattle.wasm_file.proofs.frames.read_each.Given as goal

abbrev pub invariant-loop-byte : goal.invariant-loop-byte
invariant-loop-byte l = preamble_of (drop l.byte-index l.bytes) l.reader ≡ preamble_of l.bytes l.fn.reader
