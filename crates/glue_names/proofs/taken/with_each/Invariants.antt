use Rattle.std.proofs.Common.{◌≡◌, drop}
use Rattle.values.specs.TextSet.{with_texts}
use Rattle.glue_names.proofs.taken.with_each.Given as goal

abbrev pub invariant-loop-text : goal.invariant-loop-text
invariant-loop-text g l = with_texts (g.N.Names.bound l.more) (drop l.text-index l.texts) ≡ with_texts (g.N.Names.bound l.fn.scope) l.texts
