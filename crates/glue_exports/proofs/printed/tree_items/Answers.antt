-- The items of a tree publish exactly what is defined in it.
use Rattle.std.proofs.Common.{◌≡◌, ℕ, List, Result, IfOk, Ok, Err, sym, subst}
use Rattle.glue_words.specs.declared.item.Item.{Item}
use Rattle.glue_exports.specs.Tree.{Entry, IsTree}
use Rattle.glue_exports.specs.Printed.{RootNames, tree_items}
use Rattle.glue_exports.specs.Sound.{AreSound, ArePublished}
use Rattle.glue_exports.proofs.Published.{published}
use Rattle.glue_exports.proofs.printed.tree_items.Goals as goal

when_listed : {E : Type 0} (roots : RootNames) (hosts : List (List ℕ)) (tree : List Entry) (r : Result (List Item) E) → IsTree tree
    → IfOk r (λ items. items ≡ tree_items roots hosts tree) → IfOk r (λ items. AreSound tree → ArePublished tree items)
when_listed roots hosts tree (Ok items) t is = λ sound. subst (ArePublished tree) (sym is) (published roots hosts tree t sound)
when_listed roots hosts tree (Err e) t is = tt

pub returns-clause-published : goal.returns-clause-published
returns-clause-published c =
    let roots = c.args.roots.now in
    let hosts = c.args.hosts.now in
    let of = λ (tree : List Entry). IfOk c.listed_items.result (λ items. items ≡ tree_items roots hosts tree) in
    when_listed roots hosts c.args.tree.now c.listed_items.result c.definitions.ensures.tree
    (subst of c.definitions.ensures.definitions c.listed_items.ensures.items)
