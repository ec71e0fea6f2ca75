use Rattle.std.proofs.Common.{None, length, ap, subst, ◌∙◌}
use Rattle.std.specs.Prelude.{replicate}
use Rattle.wasm_reach.specs.declared.things.Thing.TheVariants as things
use Rattle.wasm_core.specs.declared.types.GlobalVar.{GlobalVar}
use Rattle.wasm_collect.specs.Reach.{content_names, ops_names}
use Rattle.wasm_collect.specs.Edges.{Fills, first_declarer, AreForgotten}
use Rattle.wasm_collect.proofs.Declared.{all_declared}
use Rattle.wasm_collect.proofs.declarers.declarers.Goals as goal

pub returns : goal.returns
returns c =
    let a = c.in_ok-declarers.declarers.items in
    let b = c.declare_all.new.declarers.items in
    let d = c.declare_all-2.new.declarers.items in
    let e = c.forget_exported.new.declarers.items in
    all_declared c.args.from.now a b d e
    (c.in_ok-declarers.ensures ∙ ap (λ xs. replicate (length xs) None) c.funcs.ensures)
    (subst (λ xs. Fills (first_declarer content_names things.Elem xs) a b) c.elems.ensures c.in_ok-declare_all.ensures)
    (subst (λ xs. Fills (first_declarer (λ (g : GlobalVar). ops_names g.init) things.Global xs) b d) c.globals.ensures c.in_ok-declare_all-2.ensures)
    (subst (λ xs. AreForgotten xs d e) c.exports.ensures c.forget_exported.ensures)
