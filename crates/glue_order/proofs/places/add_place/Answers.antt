use Rattle.std.proofs.Common.{◌≡◌, ◌∙◌, List, None, Option, ap, not, sym, ℕ}
use Rattle.std.specs.BTreeMap.{insert_entry}
use Rattle.values.specs.Map.{look_up}
use Rattle.glue_order.specs.Order.{is_named, name_order}
use Rattle.glue_order.specs.Walks.{first_of}
use Rattle.glue_order.proofs.ClassPlaces.{nothing, placed}
use Rattle.glue_order.proofs.places.add_place.Goals as goal

pub returns-in_ok-insert : goal.returns-in_ok-insert
returns-in_ok-insert c =
    let places = c.args.places.now in
    let own = c.in-Some.name.now in
    let none : look_up name_order places own ≡ None = sym c.get.ensures ∙ nothing c.get.result (c.is_none.ensures ∙ ap not c.if-is_none.true) in
    record {
      added = λ name.
          ap (λ (es : List (List ℕ × ℕ)). look_up name_order es name) (c.in_ok-insert.ensures.entries ∙ ap (λ (key : List ℕ). insert_entry name_order places key c.args.place) c.in_ok-copy.ensures.equal)
          ∙ placed places own c.args.place none name
          ∙ ap (λ (o : Option (List ℕ)). first_of (look_up name_order places name) (is_named name o) c.args.place) c.in-Some.ensures.name;
    }
