-- A module with a function more is one.
use Rattle.std.proofs.Common.{◌≡◌, ℕ, zero, suc, ◌+◌, ◌≤◌, Bool, true, false, cond, List, [], ◌∷◌, ◌++◌, length, Option, Some, None, refl, sym, ap, subst, ◌∙◌, arith, inl, inr, zero-add}
use Rattle.std.specs.Prelude.{is_some}
use Rattle.std.specs.Cmp.Lexicographic.{pointwise}
use Rattle.std.specs.List.{position_from}
use Rattle.std.proofs.lemmas.Bool.{cases_Bool, true≢false, and_parts}
use Rattle.std.proofs.lemmas.List.{length-append}
use Rattle.std.proofs.lemmas.Option.{none-some, same_Some}
use Rattle.wasm_types.specs.declared.ids.ImportId.{ImportId}
use Rattle.wasm_code.specs.declared.body.Body.{Body}
use Rattle.wasm_types.specs.declared.types.FuncType.{FuncType}
use Rattle.wasm_types.specs.declared.types.ValType.{ValType}
use Rattle.wasm_ops_laws.specs.Fits.{FitsBody}
use Rattle.wasm_file.specs.Parts.{params_of}
use Rattle.wasm_file_laws.specs.FileFits.{FitsName, FitsFuncType}
use Rattle.wasm_file_laws.proofs.CountsGrow.{AreAtMost, named_at_most, fits_body_grows, fits_initials_grow, fits_elem_grows, fits_segment_grows}
use Rattle.wasm_reach.specs.declared.things.Thing.{Thing}
use Rattle.wasm_reach.specs.declared.things.Thing.TheVariants as things
use Rattle.wasm_core.specs.Contents.{Contents}
use Rattle.wasm_core.specs.Edits.{is_same_type, is_entry_alike, new_func, func_added, with_func}
use Rattle.wasm_collect.specs.Reach.{entry_of, entry_at, passes, places, ops_names}
use Rattle.wasm_core.specs.declared.types.Func.{Func}
use Rattle.wasm_core.specs.declared.types.GlobalVar.{GlobalVar}
use Rattle.wasm_core.specs.declared.types.Memory.{Memory}
use Rattle.wasm_core.specs.declared.types.Table.{Table}
use Rattle.wasm_core.specs.declared.types.Tag.{Tag}
use Rattle.wasm_core_laws.specs.ModuleFits.{id_counts, Stands, AllStand, AllThere, type_of_func, FitsFunc, func_imported, IsBroughtBy, IsModule}
use Rattle.wasm_core_laws.proofs.Carried.{IsAsTyped, start_fits, Extends, FitIn, fit_in, AreBroughtAlike, brought_self, AreLinkedAlike, still_linked}
use Rattle.wasm_core_laws.proofs.Numbers.{at_end}
use Rattle.wasm_core_laws.proofs.Entries.{there_at, standing, there_push}

-- ---- lists with one entry more

-- what stood stands, and is as it was
abbrev AreStill : {A : Type 0} → List (Option A) → List (Option A) → Type 0
AreStill xs ys = (i : ℕ) → is_some (entry_at xs i) ≡ true → entry_at ys i ≡ entry_at xs i

module _ {A : Type 0} where
  -- one entry more leaves those that stood
  pushed_still : (xs : List (Option A)) (y : Option A) → AreStill xs (xs ++ y ∷ [])
  pushed_still [] y i s = absurd (true≢false (sym s))
  pushed_still (x ∷ xs) y zero s = refl
  pushed_still (x ∷ xs) y (suc i) s = pushed_still xs y i s

  -- the entry more stands behind the others
  pushed_last : (xs : List (Option A)) (y : Option A) → entry_at (xs ++ y ∷ []) (length xs) ≡ y
  pushed_last xs y = ap entry_of (at_end xs y [])

  -- an entry more that fails the test is at none of the places of those that pass
  places_pushed : (test : A → Bool) (k : ℕ) (xs : List (Option A)) (y : A) → test y ≡ false → places test k (xs ++ Some y ∷ []) ≡ places test k xs
  unfolding places
  places_pushed test k [] y fails = ap (λ b. cond b (k ∷ []) [] ++ []) fails
  places_pushed test k (x ∷ xs) y fails = ap (λ ps. cond (passes test x) (k ∷ []) [] ++ ps) (places_pushed test (k + 1) xs y fails)

  -- what stays is brought in as it was
  brought_still : (import_of : A → Option ImportId) (xs ys : List (Option A)) → AreStill xs ys → AreBroughtAlike import_of xs ys
  brought_still import_of xs ys still i place = at_entry (entry_at xs i) (entry_at ys i) (still i)
    where
      at_entry : (o p : Option A) → (is_some o ≡ true → p ≡ o) → IsBroughtBy import_of place o → IsBroughtBy import_of place p
      at_entry (Some x) p same h = subst (IsBroughtBy import_of place) (sym (same refl)) h
      at_entry None p same h = absurd h

  -- what stands at the first place that passes a test
  passes_at : (test : Option A → Bool) (k : ℕ) (xs : List (Option A)) (p : ℕ) → position_from test k xs ≡ Some p → (i : ℕ) × (p ≡ k + i) × (test (entry_at xs i) ≡ true)
  passes_at test k [] p is = absurd (none-some p is)
  passes_at test k (x ∷ xs) p is = elim (cases_Bool (test x)) [
    | inl e ↦
        let found : Some k ≡ Some p = ap (λ b. cond b (Some k) (position_from test (k + 1) xs)) (sym e) ∙ is in
        let same : k ≡ p = same_Some k p found in
        (zero, omega (arith, same), e)
    | inr e ↦
        let found : position_from test (k + 1) xs ≡ Some p = ap (λ b. cond b (Some k) (position_from test (k + 1) xs)) (sym e) ∙ is in
        let r = passes_at test (k + 1) xs p found in
        let same : p ≡ k + 1 + r.0 = r.1 in
        (suc r.0, omega (arith, same), r.2)
  ]

-- ---- types that are alike

-- lists of types that are alike are of one length
same_long : (xs ys : List ValType) → pointwise is_same_type xs ys ≡ true → length xs ≡ length ys
same_long [] [] h = refl
same_long [] (y ∷ ys) h = absurd (true≢false (sym h))
same_long (x ∷ xs) [] h = absurd (true≢false (sym h))
same_long (x ∷ xs) (y ∷ ys) h = ap suc (same_long xs ys (and_parts (is_same_type x y) (pointwise is_same_type xs ys) h).1)

-- an entry that is alike has as many parameters
alike_params : (ty : FuncType) (o : Option FuncType) → is_entry_alike ty o ≡ true → (is_some o ≡ true) × (params_of o ≡ length ty.params)
alike_params ty (Some found) h = (refl, same_long found.params ty.params (and_parts (pointwise is_same_type found.params ty.params) (pointwise is_same_type found.results ty.results) h).0)
alike_params ty None h = absurd (true≢false (sym h))

-- ---- the module

module _ (m : Contents) (h : IsModule m) (types : List (Option FuncType)) (still : AreStill m.types types) (more : length m.types ≤ length types) (f : Func) where
  -- the module with these types and a function more
  abbrev with_more : Contents
  with_more = record m { types = types; funcs = m.funcs ++ Some f ∷ [] }

  -- nothing is less than it was
  more_counts : AreAtMost (id_counts m) (id_counts with_more)
  more_counts = record {
    types = more;
    funcs = omega (arith, length-append m.funcs (Some f ∷ []));
    tables = omega arith;
    memories = omega arith;
    globals = omega arith;
    tags = omega arith;
    elems = omega arith;
    segments = omega arith;
    locals = omega arith;
  }

  -- what stood stands
  more_stand : (t : Thing) → Stands m t → Stands with_more t
  more_stand (things.Type i) s = ap is_some (still i s) ∙ s
  more_stand (things.Func i) s = ap is_some (pushed_still m.funcs (Some f) i s) ∙ s
  more_stand _ s = s

  -- what fitted fits
  more_extends : Extends m with_more
  more_extends = record {
    carries = record {
      counts = record {
        initials = fits_initials_grow (id_counts m) (id_counts with_more) (named_at_most (id_counts m) (id_counts with_more) more_counts);
        body = fits_body_grows (id_counts m) (id_counts with_more) more_counts;
        elem = fits_elem_grows (id_counts m) (id_counts with_more) (named_at_most (id_counts m) (id_counts with_more) more_counts);
        segment = fits_segment_grows (id_counts m) (id_counts with_more) (named_at_most (id_counts m) (id_counts with_more) more_counts);
      };
      types = λ i s _. still i s;
    };
    stand = more_stand;
  }

  -- a function that stood has its type
  more_typed : (i : ℕ) → Stands m (things.Func i) → IsAsTyped m with_more i
  more_typed i s =
      let g = standing (entry_at m.funcs i) s in
      let fits = there_at (FitsFunc m) m.funcs i g.0 h.funcs g.1 in
      ap (type_of_func with_more) (pushed_still m.funcs (Some f) i s ∙ g.1) ∙ still g.0.ty.0 fits.ty_stands ∙ ap (type_of_func m) (sym g.1)

  -- what imports bring in is brought in as it was
  more_linked : AreLinkedAlike m with_more
  more_linked = record {
    funcs = brought_still (λ (f : Func). f.«import») m.funcs (m.funcs ++ Some f ∷ []) (pushed_still m.funcs (Some f));
    tables = brought_self (λ (t : Table). t.«import») m.tables;
    memories = brought_self (λ (x : Memory). x.«import») m.memories;
    globals = brought_self (λ (g : GlobalVar). g.«import») m.globals;
    tags = brought_self (λ (t : Tag). t.«import») m.tags;
  }

  -- the module with a function of its own more is one, where the function fits it
  more_is_module : AllThere FitsFuncType types → f.«import» ≡ None → FitsFunc with_more f → IsModule with_more
  more_is_module types_fit own fits =
      let k : FitIn with_more m = fit_in m with_more more_extends h in record {
        types = types_fit;
        funcs = there_push (FitsFunc with_more) m.funcs f fits k.funcs;
        tables = h.tables;
        memories = h.memories;
        globals = k.globals;
        tags = k.tags;
        imports = k.imports;
        exports = k.exports;
        elems = k.elems;
        segments = k.segments;
        start = start_fits m with_more m.start (λ func is s. (more_stand (things.Func func.0) s, more_typed func.0 s)) h.start;
        customs = h.customs;
        name = h.name;
        producers = h.producers;
        order = record {
          linked = still_linked m with_more more_linked 0 m.imports m.imports (λ j y is. (y, is, refl)) h.order.linked;
          funcs = places_pushed func_imported 0 m.funcs f (ap is_some own) ∙ h.order.funcs;
          tables = h.order.tables;
          memories = h.order.memories;
          globals = h.order.globals;
          tags = h.order.tags;
        };
      }

-- the body fits the module with the function
abbrev FitsAdded : Contents → FuncType → Body → Type 0
FitsAdded n ty body = FitsBody (id_counts n) (length ty.params) body × AllStand n (ops_names body.ops)

-- where the type of the function stands at this place, or is added
by_place : (m : Contents) (ty : FuncType) (name : List ℕ) (body : Body) → IsModule m → FitsFuncType ty → FitsName name → (o : Option ℕ) → position_from (is_entry_alike ty) 0 m.types ≡ o → FitsAdded (func_added ty o name body m) ty body → IsModule (func_added ty o name body m)
by_place m ty name body h ty_fits name_fits (Some place) is fits =
    let found = passes_at (is_entry_alike ty) 0 m.types place is in
    let same : place ≡ found.0 = found.1 ∙ zero-add found.0 in
    let alike = alike_params ty (entry_at m.types place) (subst (λ (p : ℕ). is_entry_alike ty (entry_at m.types p) ≡ true) (sym same) found.2) in
    let n : Contents = func_added ty (Some place) name body m in
    more_is_module m h m.types (λ i s. refl) (omega arith) (new_func place name body) h.types refl (record {
      ty_stands = alike.0;
      name_fits = name_fits;
      code_fits = (subst (λ (p : ℕ). FitsBody (id_counts n) p body) (sym alike.1) fits.0, fits.1);
    })
by_place m ty name body h ty_fits name_fits None is fits =
    let n : Contents = func_added ty None name body m in
    let last : entry_at n.types (length m.types) ≡ Some ty = pushed_last m.types (Some ty) in
    more_is_module m h (m.types ++ Some ty ∷ []) (pushed_still m.types (Some ty)) (omega (arith, length-append m.types (Some ty ∷ []))) (new_func (length m.types) name body)
    (there_push FitsFuncType m.types ty ty_fits h.types) refl (record {
      ty_stands = ap is_some last;
      name_fits = name_fits;
      code_fits = (subst (λ (p : ℕ). FitsBody (id_counts n) p body) (sym (ap params_of last)) fits.0, fits.1);
    })

pub with_func_is_module : (m : Contents) (ty : FuncType) (name : List ℕ) (body : Body) → IsModule m → FitsFuncType ty → FitsName name
    → FitsBody (id_counts (with_func ty name body m)) (length ty.params) body → AllStand (with_func ty name body m) (ops_names body.ops) → IsModule (with_func ty name body m)
unfolding with_func
with_func_is_module m ty name body h ty_fits name_fits fits named = by_place m ty name body h ty_fits name_fits (position_from (is_entry_alike ty) 0 m.types) refl (fits, named)
