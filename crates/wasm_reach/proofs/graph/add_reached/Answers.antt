use Rattle.std.proofs.Common.{◌≡◌, refl, subst, arith}
use Rattle.std.specs.List.{filter}
use Rattle.wasm_reach.specs.Found.{Adds}
use Rattle.wasm_reach.proofs.SearchSteps.{begins, steps, is_done}
use Rattle.wasm_reach.proofs.graph.add_reached.Goals as goal

pub search-init : goal.search-init
search-init g c = record {
  within = λ t h. c.in_ok-add_all.ensures.within t (c.requires.within t h);
  searched = begins _ _ c.args.found.now c.add_all.new.self c.requires.none c.in_ok-add_all.ensures;
}

pub overflow_add-next : goal.overflow_add-next
overflow_add-next g c = omega (arith, c.search-test.true, c.len.type_inv)

pub search-preserved : goal.search-preserved
search-preserved g c =
    let there = g.G.Graph.is_there c.args.graph.now in
    let named = g.G.Graph.names c.args.graph.now c.thing.result in
    let reads : c.deref.result.now ≡ named = rw (c.deref.ensures.value, c.in_ok-push_names.ensures, c.clear.ensures.items) (refl {a = named}) in
    record {
      within = λ t h. c.in_ok-add_all-2.ensures.within t (c.search.invariant.within t h);
      searched = steps (λ t. filter there (g.G.Graph.names c.args.graph.now t)) (filter there c.args.roots.now) c.search.next c.thing.result c.search.found c.add_all-in-search.new.self c.thing.ensures (subst (λ xs. Adds c.search.found c.add_all-in-search.new.self (filter there xs)) reads c.in_ok-add_all-2.ensures) c.search.invariant.searched;
    }

pub returns : goal.returns
returns g c = is_done _ _ c.search.next c.search.found (omega (arith, c.len.ensures.len)) c.len.ensures.told c.search.invariant.searched
