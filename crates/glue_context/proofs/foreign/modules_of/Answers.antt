use Rattle.glue_context.proofs.Common.{ℕ, List, ◌+◌, ◌++◌, ap, sym, ◌∙◌, module_at, modules_from}
use Rattle.std.proofs.Common.{drop, append_assoc}
use Rattle.glue_context.proofs.Lists.{modules_next}
use Rattle.glue_context.proofs.foreign.modules_of.Goals as goal

pub loop-place-preserved : goal.loop-place-preserved
loop-place-preserved c =
    let own = c.args.own.now in
    let paths = c.args.paths.now in
    let i = c.loop-place.place in
    let entry = c.index-paths-place.result in
    let rest = modules_from own (i + 1) (drop (i + 1) paths) in
    ap (λ (modules : List (List ℕ)). modules ++ rest) c.in_ok-push_module.ensures.pushed
    ∙ append_assoc c.loop-place.modules (module_at own i entry) rest
    ∙ ap (λ (more : List (List ℕ)). c.loop-place.modules ++ more) (sym (modules_next own paths i entry c.loop-place-test.true c.index-paths-place.is))
    ∙ c.loop-place.invariant
