use Rattle.std.proofs.Common.{List, ℕ, ap, sym, ◌∙◌}
use Rattle.glue_shared.specs.declared.name_map.NameMap.{NameMap}
use Rattle.glue_shared.specs.NameMap.{no_names}
use Rattle.glue_naming.specs.declared.named.Wanted.{Wanted}
use Rattle.glue_naming.specs.Drawing.{put_name}
use Rattle.glue_naming.proofs.Draws.{filled_next}
use Rattle.glue_naming.proofs.drawing.fill.Goals as goal

pub loop-place-preserved : goal.loop-place-preserved
loop-place-preserved c =
    let w = c.index-list-place.result in
    let name = c.index-names-place.result in
    c.in_ok-put_name.ensures.put
    ∙ ap (λ (v : Wanted). put_name c.loop-place.map v.thing c.in_ok-name.name) (sym c.index-list-place.is)
    ∙ ap (λ (n : List ℕ). put_name c.loop-place.map w.thing n) c.in_ok-name.ensures.equal
    ∙ ap (λ (m : NameMap). put_name m w.thing name) c.loop-place.invariant
    ∙ sym (filled_next no_names c.args.list.now c.args.names.now c.loop-place.place w name c.requires.alike c.loop-place-test.true c.index-list-place.is c.index-names-place.is)
