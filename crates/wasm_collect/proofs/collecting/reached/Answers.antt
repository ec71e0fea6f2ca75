use Rattle.std.proofs.Common.{◌≡◌, ◌++◌, ◌∙◌, ap, sym, subst, true}
use Rattle.std.specs.Prelude.{IfOk}
use Rattle.std.specs.List.{filter}
use Rattle.wasm_reach.specs.Marks.{is_marked, IsCounted}
use Rattle.wasm_reach.specs.Reach.{IsLeast}
use Rattle.wasm_core.specs.Contents.{Contents}
use Rattle.wasm_collect.specs.Reach.{stands, refs, root_names, IsReached}
use Rattle.wasm_collect.proofs.Kept.{counted}
use Rattle.wasm_collect.proofs.collecting.reached.Goals as goal

pub search-requires : goal.search-requires
search-requires c = λ t h. subst (λ s. IsCounted s t) (sym c.sizes_of.ensures) (counted c.args.from.now t (subst (λ (m : Contents). stands m t ≡ true) c.in_ok-edges.ensures h))

pub returns : goal.returns
returns c =
    let m = c.in_ok-edges.edges in
    let found : c.deref.result.now ≡ root_names m c.args.roots.now = c.deref.ensures.value ∙ c.in_ok-push_roots.ensures ∙ ap (λ xs. xs ++ root_names m c.args.roots.now) c.new-things.ensures.items in
    subst (λ (n : Contents). IfOk c.search.result (λ marks. IsReached n c.args.roots.now (is_marked marks))) c.in_ok-edges.ensures
    (subst (λ xs. IfOk c.search.result (λ marks. IsLeast (refs m) (filter (stands m) xs) (is_marked marks))) found c.search.ensures)
