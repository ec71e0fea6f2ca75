-- What declares functions, step by step.
use Rattle.std.proofs.Common.{lt-ltb, le-ltb, ◌≡◌, ◌≢◌, ℕ, ◌+◌, ◌<◌, Bool, true, false, cond, List, [], ◌∷◌, ◌++◌, map, length, take, get_or, set, Option, Some, None, refl, sym, ap, subst, ◌∙◌, arith, inl, inr}
use Rattle.std.specs.Prelude.{replicate, slice_get, ◌||◌}
use Rattle.std.specs.List.{list_any}
use Rattle.std.specs.Option.{option_map, option_to_list}
use Rattle.std.proofs.lemmas.Bool.{cases_lt}
use Rattle.std.proofs.lemmas.Bool.Decides.{eqb_tells}
use Rattle.std.proofs.lemmas.Option.{slice_get-get_or}
use Rattle.std.proofs.lemmas.List.{take_more, get_or-set_other, get_or-set_same, get_or-replicate, length-replicate}
use Rattle.std.proofs.Math.ListN.{length-set}
use Rattle.wasm_file.specs.declared.entries.Export.{Export}
use Rattle.wasm_reach.specs.declared.things.Thing.{Thing}
use Rattle.wasm_reach.specs.declared.things.Thing.TheVariants as things
use Rattle.wasm_core.specs.declared.types.GlobalVar.{GlobalVar}
use Rattle.wasm_core.specs.Contents.{Contents}
use Rattle.wasm_collect.specs.Reach.{places, passes, is_func, item_thing, gives_func, declarer, content_names, ops_names}
use Rattle.wasm_collect.specs.Edges.{or_else, noted, with_declarer, without_declarer, without_exported, Fills, named_by, declared_by, first_declarer, AreForgotten, AreDeclarers}
use Rattle.wasm_collect.proofs.Places.{places_more, no_places}

-- ---- filling

or_else-none : (a : Option Thing) → or_else a None ≡ a
or_else-none (Some t) = refl
or_else-none None = refl

or_else-assoc : (a b c : Option Thing) → or_else (or_else a b) c ≡ or_else a (or_else b c)
or_else-assoc (Some t) b c = refl
or_else-assoc None b c = refl

pub fills_none : (added : ℕ → Option Thing) (old : List (Option Thing)) → ((f : ℕ) → added f ≡ None) → Fills added old old
fills_none added old none = record { same_len = refl; told = λ f lt. sym (ap (or_else (get_or old f None)) (none f) ∙ or_else-none (get_or old f None)) }

fills_same : (a b : ℕ → Option Thing) (old new : List (Option Thing)) → ((f : ℕ) → a f ≡ b f) → Fills a old new → Fills b old new
fills_same a b old new is h = record { same_len = h.same_len; told = λ f lt. h.told f lt ∙ ap (or_else (get_or old f None)) (is f) }

fills_both : (a b : ℕ → Option Thing) (old mid new : List (Option Thing)) → Fills a old mid → Fills b mid new → Fills (λ f. or_else (a f) (b f)) old new
fills_both a b old mid new p q = record {
  same_len = q.same_len ∙ p.same_len;
  told = λ f lt.
      let within : f < length mid = omega (arith, p.same_len) in
      q.told f within ∙ ap (λ o. or_else o (b f)) (p.told f lt) ∙ or_else-assoc (get_or old f None) (a f) (b f);
}

-- ---- one name

noted_len : (ds : List (Option Thing)) (f : ℕ) (t : Thing) (o : Option (Option Thing)) → length (noted ds f t o) ≡ length ds
noted_len ds f t (Some None) = length-set ds f (Some t)
noted_len ds f t (Some (Some u)) = refl
noted_len ds f t None = refl

noted_same : (ds : List (Option Thing)) (f : ℕ) (t : Thing) (o : Option Thing) → f < length ds → o ≡ get_or ds f None → get_or (noted ds f t (Some o)) f None ≡ or_else o (Some t)
noted_same ds f t None lt is = get_or-set_same ds f (Some t) None lt
noted_same ds f t (Some u) lt is = sym is

noted_other : (ds : List (Option Thing)) (f g : ℕ) (t : Thing) (o : Option (Option Thing)) → g ≢ f → get_or (noted ds f t o) g None ≡ get_or ds g None
noted_other ds f g t (Some None) ne = get_or-set_other ds f g (Some t) None ne
noted_other ds f g t (Some (Some u)) ne = refl
noted_other ds f g t None ne = refl

noted_told : (ds : List (Option Thing)) (f g : ℕ) (t : Thing) → g < length ds → get_or (noted ds f t (slice_get ds f)) g None ≡ or_else (get_or ds g None) (cond (is_func g (things.Func f)) (Some t) None)
noted_told ds f g t lt = elim (eqb_tells f g) [
  | inl p ↦
      let within : f < length ds = omega (arith, p.1) in
      let is : slice_get ds f ≡ Some (get_or ds f None) = slice_get-get_or ds f None within in
      rw (p.0, is) (subst (λ k. get_or (noted ds f t (Some (get_or ds f None))) k None ≡ or_else (get_or ds k None) (Some t)) (p.1) (noted_same ds f t (get_or ds f None) within refl))
  | inr p ↦ rw (p.0) (noted_other ds f g t (slice_get ds f) (λ e. p.1 (sym e)) ∙ sym (or_else-none (get_or ds g None)))
]

name_fills : (ds : List (Option Thing)) (name t : Thing) → Fills (named_by t (name ∷ [])) ds (with_declarer ds name t)
name_fills ds (things.Func f) t = record {
  same_len = noted_len ds f t (slice_get ds f);
  told = λ g lt. noted_told ds f g t lt ∙ ap (λ b. or_else (get_or ds g None) (cond b (Some t) None)) (sym (or_false (is_func g (things.Func f))));
}
  where
    or_false : (b : Bool) → (b || false) ≡ b
    or_false true = refl
    or_false false = refl
name_fills ds name t = fills_none (named_by t (name ∷ [])) ds (λ f. refl)

any_append : {A : Type 0} (p : A → Bool) (xs ys : List A) → list_any p (xs ++ ys) ≡ (list_any p xs || list_any p ys)
any_append p [] ys = refl
any_append p (x ∷ xs) ys = ap (λ b. p x || b) (any_append p xs ys) ∙ or_assoc (p x) (list_any p xs) (list_any p ys)
  where
    or_assoc : (a b c : Bool) → (a || (b || c)) ≡ ((a || b) || c)
    or_assoc true b c = refl
    or_assoc false b c = refl

either_name : (t : Thing) (a b : Bool) → or_else (cond a (Some t) None) (cond b (Some t) None) ≡ cond (a || b) (Some t) None
either_name t true b = refl
either_name t false b = refl

-- ---- the names of an entry

pub names_more : (t : Thing) (found : List Thing) (i : ℕ) (d : Thing) (old mid new : List (Option Thing)) → i < length found → Fills (named_by t (take i found)) old mid → new ≡ with_declarer mid (get_or found i d) t → Fills (named_by t (take (i + 1) found)) old new
names_more t found i d old mid new lt h is =
    let step : Fills (named_by t (get_or found i d ∷ [])) mid new = subst (λ ds. Fills (named_by t (get_or found i d ∷ [])) mid ds) (sym is) (name_fills mid (get_or found i d) t) in
    fills_same _ (named_by t (take (i + 1) found)) old new
    (λ f. either_name t (list_any (is_func f) (take i found)) (list_any (is_func f) (get_or found i d ∷ []))
    ∙ ap (λ b. cond b (Some t) None) (sym (ap (list_any (is_func f)) (take_more found i d lt) ∙ any_append (is_func f) (take i found) (get_or found i d ∷ []))))
    (fills_both (named_by t (take i found)) (named_by t (get_or found i d ∷ [])) old mid new h step)

pub names_begin : (t : Thing) (old : List (Option Thing)) → Fills (named_by t []) old old
names_begin t old = fills_none (named_by t []) old (λ f. refl)

-- ---- entry after entry

first_more : (make : ℕ → Thing) (ps : List ℕ) (i : ℕ) (b : Bool) → or_else (option_map make (slice_get ps 0)) (cond b (Some (make i)) None) ≡ option_map make (slice_get (ps ++ cond b (i ∷ []) []) 0)
first_more make [] i true = refl
first_more make [] i false = refl
first_more make (p ∷ ps) i b = refl

pub entries_begin : {A : Type 0} (named : A → List Thing) (make : ℕ → Thing) (old : List (Option Thing)) → Fills (first_declarer named make []) old old
entries_begin named make old = fills_none (first_declarer named make []) old (λ f. ap (λ ps. option_map make (slice_get ps 0)) (no_places (λ x. list_any (is_func f) (named x))))

pub entries_more : {A : Type 0} (named : A → List Thing) (make : ℕ → Thing) (entries : List (Option A)) (i : ℕ) (x : Option A) (old mid new : List (Option Thing)) → i < length entries → x ≡ get_or entries i x → Fills (first_declarer named make (take i entries)) old mid → Fills (declared_by named (make i) x) mid new → Fills (first_declarer named make (take (i + 1) entries)) old new
entries_more {A} named make entries i x old mid new lt at h step =
    fills_same _ (first_declarer named make (take (i + 1) entries)) old new
    (λ f.
    let test : A → Bool = λ y. list_any (is_func f) (named y) in
    let here : passes test (get_or entries i x) ≡ passes test x = ap (passes test) (sym at) in
    first_more make (places test 0 (take i entries)) i (passes test x)
    ∙ ap (λ ps. option_map make (slice_get ps 0)) (sym (places_more test entries i x lt ∙ ap (λ b. places test 0 (take i entries) ++ cond b (i ∷ []) []) here)))
    (fills_both (first_declarer named make (take i entries)) (declared_by named (make i) x) old mid new h step)

-- ---- exports

forget_len : (ds : List (Option Thing)) (t : Thing) → length (without_declarer ds t) ≡ length ds
forget_len ds (things.Func f) = elim (cases_lt f (length ds)) [
  | inl lt ↦ rw (lt-ltb f (length ds) lt) (length-set ds f None)
  | inr le ↦ rw (le-ltb f (length ds) le) refl
]
forget_len ds t = refl

forget_told : (ds : List (Option Thing)) (t : Thing) (g : ℕ) → g < length ds → get_or (without_declarer ds t) g None ≡ cond (is_func g t) None (get_or ds g None)
forget_told ds (things.Func f) g lt = elim (eqb_tells f g) [
  | inl p ↦
      let within : f < length ds = omega (arith, p.1) in
      rw (p.0, lt-ltb f (length ds) within) (subst (λ k. get_or (set ds f None) k None ≡ None) (p.1) (get_or-set_same ds f None None within))
  | inr p ↦ elim (cases_lt f (length ds)) [
    | inl within ↦ rw (p.0, lt-ltb f (length ds) within) (get_or-set_other ds f g None None (λ e. p.1 (sym e)))
    | inr past ↦ rw (p.0, le-ltb f (length ds) past) refl
  ]
]
forget_told ds t g lt = refl

exported_len : (ds : List (Option Thing)) (e : Option Export) → length (without_exported ds e) ≡ length ds
exported_len ds (Some e) = forget_len ds (item_thing e.item)
exported_len ds None = refl

exported_told : (ds : List (Option Thing)) (e : Option Export) (g : ℕ) → g < length ds → get_or (without_exported ds e) g None ≡ cond (gives_func g e) None (get_or ds g None)
exported_told ds (Some e) g lt = forget_told ds (item_thing e.item) g lt
exported_told ds None g lt = refl

either_none : (a b : Bool) (o : Option Thing) → cond b None (cond a None o) ≡ cond (a || (b || false)) None o
either_none true true o = refl
either_none true false o = refl
either_none false true o = refl
either_none false false o = refl

pub forgotten_none : (ds : List (Option Thing)) → AreForgotten [] ds ds
forgotten_none ds = record { same_len = refl; told = λ f lt. refl }

pub forgotten_more : (exported : List (Option Export)) (i : ℕ) (e : Option Export) (old mid new : List (Option Thing)) → i < length exported → e ≡ get_or exported i e → AreForgotten (take i exported) old mid → new ≡ without_exported mid e → AreForgotten (take (i + 1) exported) old new
forgotten_more exported i e old mid new lt at h is = record {
  same_len = ap length is ∙ exported_len mid e ∙ h.same_len;
  told = λ f within.
      let inside : f < length mid = omega (arith, h.same_len) in
      let any : list_any (gives_func f) (take (i + 1) exported) ≡ (list_any (gives_func f) (take i exported) || (gives_func f e || false)) =
      ap (list_any (gives_func f)) (take_more exported i e lt) ∙ any_append (gives_func f) (take i exported) (get_or exported i e ∷ [])
      ∙ ap (λ x. list_any (gives_func f) (take i exported) || (gives_func f x || false)) (sym at) in
      ap (λ ds. get_or ds f None) is ∙ exported_told mid e f inside ∙ ap (cond (gives_func f e) None) (h.told f within)
      ∙ either_none (list_any (gives_func f) (take i exported)) (gives_func f e) (get_or old f None)
      ∙ ap (λ b. cond b None (get_or old f None)) (sym any);
}

-- ---- all of them

first_of_both : (a b : ℕ → Thing) (ps qs : List ℕ) → option_to_list (or_else (option_map a (slice_get ps 0)) (option_map b (slice_get qs 0))) ≡ take 1 (map a ps ++ map b qs)
first_of_both a b [] [] = refl
first_of_both a b [] (q ∷ qs) = refl
first_of_both a b (p ∷ ps) qs = refl

none_or : (x : Bool) (o : Option Thing) (xs : List Thing) → option_to_list o ≡ xs → option_to_list (cond x None o) ≡ cond x [] xs
none_or true o xs is = refl
none_or false o xs is = is

pub all_declared : (m : Contents) (a b c d : List (Option Thing)) → a ≡ replicate (length m.funcs) None → Fills (first_declarer content_names things.Elem m.elems) a b → Fills (first_declarer (λ (g : GlobalVar). ops_names g.init) things.Global m.globals) b c → AreForgotten m.exports c d → AreDeclarers m d
unfolding declarer
all_declared m a b c d is p q r = record {
  counted = r.same_len ∙ q.same_len ∙ p.same_len ∙ ap length is ∙ length-replicate (length m.funcs) None;
  told = λ f lt.
      let start : length a ≡ length m.funcs = ap length is ∙ length-replicate (length m.funcs) None in
      let in_a : f < length a = omega (arith, start) in
      let in_b : f < length b = omega (arith, start, p.same_len) in
      let in_c : f < length c = omega (arith, start, p.same_len, q.same_len) in
      let empty : get_or a f None ≡ None = ap (λ ds. get_or ds f None) is ∙ get_or-replicate (length m.funcs) f None None lt in
      let from_elems : Option Thing = first_declarer content_names things.Elem m.elems f in
      let from_globals : Option Thing = first_declarer (λ (g : GlobalVar). ops_names g.init) things.Global m.globals f in
      let here : get_or c f None ≡ or_else from_elems from_globals = q.told f in_b ∙ ap (λ o. or_else o from_globals) (p.told f in_a ∙ ap (λ o. or_else o from_elems) empty) in
      ap option_to_list (r.told f in_c)
      ∙ none_or (list_any (gives_func f) m.exports) (get_or c f None) _ (ap option_to_list here ∙ first_of_both things.Elem things.Global _ _);
}
