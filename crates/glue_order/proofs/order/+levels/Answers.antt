use Rattle.std.proofs.Common.{◌≡◌, ◌∙◌, ◌++◌, ◌∷◌, [], refl, rules}
use Rattle.std.proofs.lemmas.List.{append_assoc}
use Rattle.std.specs.Vec.Iter.{into_iter_items}
use Rattle.glue_order.specs.Order.{Entry, definition, namespace, none}
use Rattle.glue_order.proofs.Inside.{inside_push}
use Rattle.glue_order.proofs.order.+levels.Goals as goal

pub sorted_entry-returns-in-Definition : goal.sorted_entry-returns-in-Definition
sorted_entry-returns-in-Definition t c = record { sorted = rw c.in-Definition.is (definition c.in-Definition.definition) }

pub sorted_entry-returns-in_ok-ns-in-Namespace : goal.sorted_entry-returns-in_ok-ns-in-Namespace
sorted_entry-returns-in_ok-ns-in-Namespace t c =
    let given = c.in-Namespace.namespace in
    let levels = c.in_ok-ns-in-Namespace.ensures.levels in
    record {
      sorted = rw c.in-Namespace.is
          (namespace given (record { id = given.id; thing = given.thing; ns = c.in_ok-ns-in-Namespace.ns }) levels.inner refl refl levels.inside levels.order);
    }

pub sorted_inside-loop-name-init : goal.sorted_inside-loop-name-init
sorted_inside-loop-name-init t c = (tt, tt, search rules, rw c.new-inner.ensures none)

pub sorted_inside-loop-name-preserved : goal.sorted_inside-loop-name-preserved
sorted_inside-loop-name-preserved t c =
    let entry : Entry = (c.in-Some.name, c.in-Some.entry) in
    let rest = into_iter_items c.next.new.self in
    let left : c.loop-name.yielded ++ entry ∷ rest ≡ c.args.entries = rw c.in-Some.ensures.steps.0 at c.loop-name.invariant.2 in (
      tt,
      tt,
      append_assoc c.loop-name.yielded (entry ∷ []) rest ∙ left,
      rw c.in_ok-push.ensures.ok
          (inside_push c.in-Some.name c.in-Some.entry c.in_ok-sorted_entry.field-0 c.in_ok-sorted_entry.ensures.sorted c.loop-name.invariant.3),
    )
