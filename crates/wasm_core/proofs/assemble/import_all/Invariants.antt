use Rattle.std.proofs.Common.{◌≡◌, ◌++◌, map, drop, Some}
use Rattle.std.specs.List.{filter_map, enumerate_from}
use Rattle.wasm_core.proofs.assemble.import_all.Given as goal

abbrev pub invariant-loop-place : goal.invariant-loop-place
invariant-loop-place g l = l.entries.items ++ map Some (filter_map (λ p. g.T.Imported.imported (record { 0 = p.0 }) p.1.ty) (enumerate_from l.place (drop l.place l.imports))) ≡ l.fn.entries.items ++ map Some (filter_map (λ p. g.T.Imported.imported (record { 0 = p.0 }) p.1.ty) (enumerate_from 0 l.imports))
