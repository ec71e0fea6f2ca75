use Rattle.std.proofs.Common.{◌+◌, drop, sym, ap, ◌∙◌}
use Rattle.std.specs.Prelude.{◌||◌}
use Rattle.std.specs.Str.{bytes_eq}
use Rattle.std.proofs.lemmas.List.{at_drop_more}
use Rattle.glue_shared.specs.Names.{is_one_of}
use Rattle.glue_faults.proofs.Clashes.{flip}
use Rattle.glue_exports.proofs.Keys.{or_moved}
use Rattle.glue_published.specs.Sets.{holds}
use Rattle.glue_published.proofs.Known.{is_name_added}
use Rattle.glue_published.proofs.name_set.name_set.Goals as goal

pub loop-name-preserved : goal.loop-name-preserved
loop-name-preserved c = λ name.
    let names = c.args.names.now in
    let place = c.loop-name.name-index in
    let one = c.name-item.result in
    let was = holds c.loop-name.set name in
    let rest = is_one_of (drop (place + 1) names) name in
    rw (c.in_ok-insert.ensures.entries, c.in_ok-copy.ensures.equal) (
    ap (λ b. b || rest) (is_name_added c.loop-name.set name one ∙ ap (λ b. b || was) (flip name one))
    ∙ or_moved was (bytes_eq one name) rest
    ∙ ap (λ b. was || b) (sym (at_drop_more (λ ns. is_one_of ns name) names place one c.loop-name-test.true ∙ ap (λ n. bytes_eq n name || rest) (sym c.name-item.is)))
    ∙ c.loop-name.invariant name)
