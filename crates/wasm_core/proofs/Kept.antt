-- Entries that are kept or dropped one after another.
use Rattle.std.proofs.Common.{◌≡◌, ℕ, suc, ◌+◌, ◌-◌, ◌<◌, ◌≤◌, Bool, true, false, cond, List, [], ◌∷◌, ◌++◌, map, length, take, drop, get_or, set, Option, None, refl, sym, ap, ◌∙◌, arith, append_assoc}
use Rattle.std.proofs.lemmas.List.{take_more, take_all, drop_all, drop_more, set_at, length-take, length-map, map_more, append-nil, get_or-append_right, get_or-drop}
use Rattle.wasm_core.specs.declared.types.Import.{Import}
use Rattle.wasm_core.specs.Remainder.{kept_places}

-- ---- one entry after another

-- an entry is kept or dropped behind those that were
kept_step : {A : Type 0} (front old es : List (Option A)) (i : ℕ) (d : Option A) (b : Bool) → length front ≡ i → i < length old → es ≡ front ++ drop i old → cond b es (set es i None) ≡ (front ++ cond b (get_or old i d) None ∷ []) ++ drop (i + 1) old
kept_step front old es i d true len lt is = is ∙ ap (λ ys. front ++ ys) (drop_more old i d lt) ∙ sym (append_assoc front (get_or old i d ∷ []) (drop (i + 1) old))
kept_step front old es i d false len lt is =
    ap (λ xs. set xs i None) (is ∙ ap (λ ys. front ++ ys) (drop_more old i d lt)) ∙ set_at front (get_or old i d) (drop (i + 1) old) None i len ∙ sym (append_assoc front (None ∷ []) (drop (i + 1) old))

module _ {A : Type 0} (kept : ℕ → Bool) where
  kept-append : (k : ℕ) (xs ys : List (Option A)) → kept_places kept k (xs ++ ys) ≡ kept_places kept k xs ++ kept_places kept (k + length xs) ys
  unfolding kept_places
  kept-append k [] ys = let e : k + 0 ≡ k = omega arith in rw e refl
  kept-append k (x ∷ xs) ys =
      let e : k + 1 + length xs ≡ k + suc (length xs) = omega arith in
      rw (kept-append (k + 1) xs ys, e) refl

  kept_len : (k : ℕ) (xs : List (Option A)) → length (kept_places kept k xs) ≡ length xs
  unfolding kept_places
  kept_len k [] = refl
  kept_len k (x ∷ xs) = ap suc (kept_len (k + 1) xs)

  one_kept : (k : ℕ) (x : Option A) → kept_places kept k (x ∷ []) ≡ cond (kept k) x None ∷ []
  unfolding kept_places
  one_kept k x = refl

  kept_more : (xs : List (Option A)) (i : ℕ) (d : Option A) → i < length xs → kept_places kept 0 (take (i + 1) xs) ≡ kept_places kept 0 (take i xs) ++ cond (kept i) (get_or xs i d) None ∷ []
  kept_more xs i d lt =
      let e : 0 + length (take i xs) ≡ i = omega (arith, length-take i xs) in
      ap (kept_places kept 0) (take_more xs i d lt) ∙ kept-append 0 (take i xs) (get_or xs i d ∷ [])
      ∙ ap (λ k. kept_places kept 0 (take i xs) ++ kept_places kept k (get_or xs i d ∷ [])) e
      ∙ ap (λ ys. kept_places kept 0 (take i xs) ++ ys) (one_kept i (get_or xs i d))

  pub kept_begins : (old : List (Option A)) → old ≡ kept_places kept 0 [] ++ old
  unfolding kept_places
  kept_begins old = refl

  pub kept_steps : (old es new : List (Option A)) (i : ℕ) (b : Bool) → i < length old → b ≡ kept i → es ≡ kept_places kept 0 (take i old) ++ drop i old → new ≡ cond b es (set es i None) → new ≡ kept_places kept 0 (take (i + 1) old) ++ drop (i + 1) old
  kept_steps old es new i b lt told before is =
      let len : length (kept_places kept 0 (take i old)) ≡ i = kept_len 0 (take i old) ∙ (omega (arith, length-take i old)) in
      is ∙ kept_step (kept_places kept 0 (take i old)) old es i None b len lt before
      ∙ ap (λ x. (kept_places kept 0 (take i old) ++ cond x (get_or old i None) None ∷ []) ++ drop (i + 1) old) told
      ∙ ap (λ xs. xs ++ drop (i + 1) old) (sym (kept_more old i None lt))

  pub kept_ends : (old es : List (Option A)) (i : ℕ) → length old ≤ i → es ≡ kept_places kept 0 (take i old) ++ drop i old → es ≡ kept_places kept 0 old
  kept_ends old es i le is = is ∙ ap (λ xs. kept_places kept 0 xs ++ drop i old) (take_all i old le) ∙ ap (λ xs. kept_places kept 0 old ++ xs) (drop_all i old le) ∙ append-nil (kept_places kept 0 old)

-- ---- imports

pub imports_begin : (f : Option Import → Option Import) (old : List (Option Import)) → old ≡ map f [] ++ old
imports_begin f old = refl

-- what stands behind those that were looked at
behind : {A : Type 0} (front old : List A) (i : ℕ) (d : A) → length front ≡ i → get_or (front ++ drop i old) i d ≡ get_or old i d
behind front old i d len =
    let none : i - i ≡ 0 = omega arith in
    let same : i + 0 ≡ i = omega arith in
    get_or-append_right front (drop i old) i i d len (omega arith) ∙ ap (λ k. get_or (drop i old) k d) none ∙ get_or-drop i old 0 d ∙ ap (λ k. get_or old k d) same

pub imports_step : (f : Option Import → Option Import) (old es new : List (Option Import)) (i : ℕ) (x : Option Import) (b : Bool) → i < length old → es ≡ map f (take i old) ++ drop i old → x ≡ get_or es i x → f x ≡ cond b x None → new ≡ cond b es (set es i None) → new ≡ map f (take (i + 1) old) ++ drop (i + 1) old
imports_step f old es new i x b lt before at told is =
    let len : length (map f (take i old)) ≡ i = length-map (take i old) f ∙ (omega (arith, length-take i old)) in
    let there : x ≡ get_or old i x = at ∙ ap (λ xs. get_or xs i x) before ∙ behind (map f (take i old)) old i x len in
    let here : cond b (get_or old i x) None ≡ f (get_or old i x) = ap (λ y. cond b y None) (sym there) ∙ sym told ∙ ap f there in
    is ∙ kept_step (map f (take i old)) old es i x b len lt before
    ∙ ap (λ y. (map f (take i old) ++ y ∷ []) ++ drop (i + 1) old) here
    ∙ ap (λ xs. xs ++ drop (i + 1) old) (sym (map_more f old i x lt))
