use Rattle.std.proofs.Common.{◌≡◌, ℕ, List, Option, None, slice_index_or, ◌∙◌, sym, ap, subst, ◌++◌, ◌∷◌, [], IfOk}
use Rattle.std.proofs.lemmas.Option.{get_or_from_slice_get, slice_get-get_or}
use Rattle.wasm_core.specs.declared.types.Func.{Func}
use Rattle.func_names.specs.Numbered.{path_of, numbered, times}
use Rattle.func_names.proofs.Renamed.{stepped, left}
use Rattle.func_names.proofs.names.rename.Goals as goal

pub returns-clause-named : goal.returns-clause-named
returns-clause-named c =
    let place = c.args.place.0 in
    let funcs = c.args.module.now.funcs in
    let there = c.index-funcs-place.result in
    let func : there ≡ slice_index_or funcs place None =
    c.index-funcs-place.is ∙ ap (λ (funcs : List (Option Func)). slice_index_or funcs place there) c.funcs.ensures
    ∙ sym (get_or_from_slice_get funcs place (slice_index_or funcs place there) None (slice_get-get_or funcs place there c.requires.place)) in
    let count : c.count.result ≡ times c.in-Some.path c.args.uses = c.count.ensures.count ∙ ap (λ (t : List ℕ). times t c.args.uses) c.as_str-2.ensures in
    let named : c.as_str-3.result.now ≡ numbered c.in-Some.path (times c.in-Some.path c.args.uses) =
    c.as_str-3.ensures.value ∙ c.in_ok-name.ensures.name ∙ ap (λ (t : List ℕ). numbered t c.count.result) c.as_str.ensures ∙ ap (numbered c.in-Some.path) count in
    let added = subst (λ (t : List ℕ). IfOk c.with.result (λ more. more ≡ c.args.uses ++ t ∷ [])) c.as_str-4.ensures c.with.ensures.added in
    stepped c.args.module.now c.set_func_name.new.self place _ c.requires.place c.in_ok-set_func_name.ensures.ok
    c.args.uses c.in-Some.path (sym (c.in_ok-path.ensures.path ∙ ap path_of func) ∙ c.in-Some.is) named c.with.result added

pub returns-clause-left : goal.returns-clause-left
returns-clause-left c = left c.args.module.now c.set_func_name.new.self c.args.place.0 _ c.requires.place c.in_ok-set_func_name.ensures.ok
