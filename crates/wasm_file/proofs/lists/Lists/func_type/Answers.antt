use Rattle.std.proofs.Common.{sym, ap, ◌∙◌}
use Rattle.std.specs.Prelude.{slice_get}
use Rattle.wasm_file.specs.Parts.{imported_func_types, func_types}
use Rattle.wasm_file.proofs.Counting.{type_of_imported, type_of_own}
use Rattle.wasm_file.proofs.lists.Lists.func_type.Goals as goal

pub returns-then-place-imported : goal.returns-then-place-imported
returns-then-place-imported c =
    let is = type_of_imported c.self.inside.parts c.self.inside.imported.funcs c.args.place c.self.invariant.counted.funcs_counted c.if-place-imported.true in
    c.imported_func_type.ensures ∙ ap (λ xs. slice_get (imported_func_types xs) c.args.place) c.as_slice.ensures ∙ sym is ∙ ap (λ p. slice_get (func_types p) c.args.place) c.self.view_is

pub returns-else-place-imported : goal.returns-else-place-imported
returns-else-place-imported c =
    let is = type_of_own c.self.inside.parts c.self.inside.imported.funcs c.args.place c.self.invariant.counted.funcs_counted c.if-place-imported.false in
    c.copied.ensures ∙ c.get.ensures.value ∙ sym is ∙ ap (λ p. slice_get (func_types p) c.args.place) c.self.view_is
