use Rattle.std.proofs.Common.{◌+◌, drop, sym, ap, ◌∙◌}
use Rattle.std.specs.Prelude.{◌||◌}
use Rattle.std.specs.List.{list_any}
use Rattle.std.specs.Str.{bytes_eq}
use Rattle.std.proofs.lemmas.List.{at_drop_more}
use Rattle.glue_faults.proofs.Clashes.{flip}
use Rattle.glue_exports.proofs.Keys.{or_moved}
use Rattle.glue_published.specs.Sets.{holds}
use Rattle.glue_published.proofs.Known.{is_name_added}
use Rattle.glue_published.proofs.roots.reexported_names.Goals as goal

pub loop-reexport-preserved : goal.loop-reexport-preserved
loop-reexport-preserved c = λ name.
    let all = c.args.reexports.now in
    let place = c.loop-reexport.reexport-index in
    let one = c.reexport-item.result in
    let was = holds c.loop-reexport.set name in
    let rest = list_any (λ r. bytes_eq r.0 name) (drop (place + 1) all) in
    rw (c.in_ok-insert.ensures.entries, c.in_ok-copy.ensures.equal) (
    ap (λ b. b || rest) (is_name_added c.loop-reexport.set name one.0 ∙ ap (λ b. b || was) (flip name one.0))
    ∙ or_moved was (bytes_eq one.0 name) rest
    ∙ ap (λ b. was || b) (sym (at_drop_more (λ rs. list_any (λ r. bytes_eq r.0 name) rs) all place one c.loop-reexport-test.true ∙ ap (λ r. bytes_eq r.0 name || rest) (sym c.reexport-item.is)))
    ∙ c.loop-reexport.invariant name)
