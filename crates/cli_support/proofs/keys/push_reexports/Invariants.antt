use Rattle.std.proofs.Common.{◌≡◌, ◌++◌, take}
use Rattle.std.specs.List.{filter, flat_map}
use Rattle.glue_words.specs.Limits.{is_computed}
use Rattle.cli_support.proofs.keys.push_reexports.Given as goal

abbrev pub invariant-loop-reexport : goal.invariant-loop-reexport
invariant-loop-reexport l = l.out.items ≡ l.fn.out.items ++ flat_map (λ r. filter is_computed r.1.fields) (take l.reexport-index l.reexports)
