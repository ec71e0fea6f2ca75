use Rattle.std.proofs.Common.{◌≡◌, drop}
use Rattle.std.specs.List.{position_from}
use Rattle.wasm_file.specs.Customs.{is_same_text}
use Rattle.wasm_core.proofs.lookup.place_named.Given as goal

abbrev pub invariant-loop-place : goal.invariant-loop-place
invariant-loop-place g l =
    position_from (λ x. is_same_text (g.T.Named.name x) l.name) l.place (drop l.place l.entries)
    ≡ position_from (λ x. is_same_text (g.T.Named.name x) l.name) 0 l.entries
