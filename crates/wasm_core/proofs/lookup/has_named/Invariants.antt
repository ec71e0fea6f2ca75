use Rattle.std.proofs.Common.{◌≡◌, drop}
use Rattle.std.specs.List.{list_any}
use Rattle.wasm_file.specs.Customs.{is_same_text}
use Rattle.wasm_core.proofs.lookup.has_named.Given as goal

abbrev pub invariant-loop-entry : goal.invariant-loop-entry
invariant-loop-entry g l = list_any (λ x. is_same_text (g.T.Named.name x) l.name) (drop l.entry-index l.entries) ≡ list_any (λ x. is_same_text (g.T.Named.name x) l.name) l.entries
