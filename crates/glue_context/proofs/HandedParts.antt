-- What an adapter calls that does nothing but hand on to a module's name or a property of it.
use Rattle.glue_context.proofs.Common.{◌≡◌, ℕ, ◌+◌, inl, inr, List, [], ◌∷◌, Bool, true, false, refl, sym, ap, ◌∙◌, Option, Some, None, IsIn, AuxImport, Settings, Lowered, option_map}
use Rattle.std.specs.Prelude.{◌==◌, ◌&&◌, ◌||◌, cond, find, not}
use Rattle.std.specs.List.{list_all}
use Rattle.std.specs.Ordering.{nat_cmp}
use Rattle.std.proofs.lemmas.Bool.{eqb-true}
use Rattle.std.proofs.lemmas.Option.{same_Some}
use Rattle.values.specs.Map.{look_up}
use Rattle.glue_shared.specs.declared.adapter.Instruction.{Instruction}
use Rattle.glue_shared.specs.declared.adapter.Instruction.TheVariants as instr
use Rattle.glue_shared.specs.declared.import.AuxImport.TheVariants as what
use Rattle.glue_shared.specs.declared.import.AuxValue.TheVariants as value
use Rattle.glue_shared.specs.declared.import.JsImport.{JsImport}
use Rattle.glue_shared.specs.Names.{callee_name, code_of, entry_of, handed_name, handed_part, has_number, is_emscripten, is_from_module, is_none, is_normal_call, is_plain_cast, module_name, part_of, plain_call}

-- the adapter that is called is a call of the code
call_in : (n : ℕ) (code : List Instruction) (id : ℕ) → plain_call n code ≡ Some id → IsIn (instr.CallAdapter id) code
call_in n [] id h = cc
call_in n (instr.ArgGet i ∷ steps) id h = inr (by (λ q. call_in (n + 1) steps id q) (i == n) h)
  where
    by : (plain_call (n + 1) steps ≡ Some id → IsIn (instr.CallAdapter id) steps) → (b : Bool) → cond b (plain_call (n + 1) steps) None ≡ Some id
        → IsIn (instr.CallAdapter id) steps
    by rest true q = rest q
    by rest false q = cc
call_in n (instr.CallAdapter adapter ∷ steps) id h = by (list_all is_plain_cast steps) h
  where
    by : (b : Bool) → cond b (Some adapter) None ≡ Some id → IsIn (instr.CallAdapter id) (instr.CallAdapter adapter ∷ steps)
    by true q = inl (ap (λ (k : ℕ). instr.CallAdapter k) (sym (same_Some adapter id q)))
    by false q = cc
call_in n (s ∷ steps) id h = inr (by (λ q. call_in n steps id q) (is_plain_cast s) h)
  where
    by : (plain_call n steps ≡ Some id → IsIn (instr.CallAdapter id) steps) → (b : Bool) → cond b (plain_call n steps) None ≡ Some id
        → IsIn (instr.CallAdapter id) steps
    by rest true q = rest q
    by rest false q = cc

-- the first entry of an id is one of them
pub entry_there : {A : Type 0} (id : ℕ) (es : List (ℕ × A)) (x : A) → entry_of id es ≡ Some x → IsIn (id, x) es
entry_there id [] x h = cc
entry_there {A = A} id (e ∷ es) x h = by (λ q. entry_there id es x q) (e.0 == id) refl h
  where
    by : (entry_of id es ≡ Some x → IsIn (id, x) es) → (b : Bool) → (e.0 == id) ≡ b
        → option_map (λ (e : ℕ × A). e.1) (cond b (Some e) (find (λ (e : ℕ × A). e.0 == id) es)) ≡ Some x → IsIn (id, x) (e ∷ es)
    by rest true same q = inl (ap (λ (k : ℕ). (k, x)) (sym (eqb-true e.0 id same)) ∙ ap (λ (y : A). (e.0, y)) (sym (same_Some e.1 x q)))
    by rest false same q = inr (rest q)

-- ---- the name that is handed on to

part_is : (o : Option JsImport) (js : JsImport) → part_of o ≡ Some js → o ≡ Some js
part_is None js h = cc
part_is (Some x) js h = by (is_none x.fields) h
  where
    by : (b : Bool) → cond b None (Some x) ≡ Some js → Some x ≡ Some js
    by true q = cc
    by false q = q

kept_is : {A : Type 0} (b : Bool) (o : Option A) (x : A) → cond b None o ≡ Some x → o ≡ Some x
kept_is true o x h = cc
kept_is false o x h = h

-- an import that is a name of a module
module_is : (o : Option AuxImport) (js : JsImport) → module_name o ≡ Some js → (o ≡ Some (what.Value (value.Bare js))) × (is_from_module js.name ≡ true)
module_is (Some (what.Value (value.Bare x))) js h = by (is_from_module x.name) refl h
  where
    by : (b : Bool) → is_from_module x.name ≡ b → cond b (Some x) None ≡ Some js
        → (Some (what.Value (value.Bare x)) ≡ Some (what.Value (value.Bare js))) × (is_from_module js.name ≡ true)
    by true own q =
        let same = same_Some x js q in
        (ap (λ (j : JsImport). Some (what.Value (value.Bare j))) same, ap (λ (j : JsImport). is_from_module j.name) (sym same) ∙ own)
    by false own q = cc
module_is other js h = cc

-- the adapter calls an import, which is described as this name of a module
pub record IsHanded (l : Lowered) (adapter : ℕ) (js : JsImport) : Type 0 where
  pub id : ℕ
  pub called : IsIn (instr.CallAdapter id) (code_of (look_up nat_cmp l.wit.adapters adapter))
  pub described : entry_of id l.aux.imports ≡ Some (what.Value (value.Bare js))
  pub from_module : is_from_module js.name ≡ true

module _ (s : Settings) (l : Lowered) (adapter : ℕ) (js : JsImport) where
  abbrev code : List Instruction
  code = code_of (look_up nat_cmp l.wit.adapters adapter)

  callee_is : (o : Option ℕ) → plain_call 0 code ≡ o → callee_name l.wit l.aux o ≡ Some js → IsHanded l adapter js
  callee_is None e h = cc
  callee_is (Some id) e h = by (is_normal_call (look_up nat_cmp l.wit.adapters id) && not (has_number id l.aux.imports_with_variadic)) h
    where
      by : (b : Bool) → cond b (module_name (entry_of id l.aux.imports)) None ≡ Some js → IsHanded l adapter js
      by true q =
          let is = module_is (entry_of id l.aux.imports) js q in
          record { id = id; called = call_in 0 code id e; described = is.0; from_module = is.1 }
      by false q = cc

  pub name_is : handed_name s l.wit l.aux adapter ≡ Some js → IsHanded l adapter js
  name_is h =
      let kept = is_emscripten s.target || (has_number adapter l.aux.imports_with_catch || l.aux.legacy_exception_handling) in
      callee_is (plain_call 0 code) refl (kept_is kept (callee_name l.wit l.aux (plain_call 0 code)) js h)

  pub handed_is : handed_part s l.wit l.aux adapter ≡ Some js → IsHanded l adapter js
  handed_is h = name_is (part_is (handed_name s l.wit l.aux adapter) js h)
