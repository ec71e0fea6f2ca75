-- The lines of a list of characters, and the blank ones at its ends.
use Rattle.std.proofs.Common.{◌≡◌, ℕ, Bool, true, false, cond, List, [], ◌∷◌, ◌==◌, ◌<◌, map, refl, sym, ap, ap₂, ◌∙◌, subst, ⊎_elim, arith, length, eqb-true, ne_eqb}
use Rattle.std.proofs.lemmas.Bool.{cases_Bool, both_ways}
use Rattle.std.proofs.lemmas.List.Splits.{slice_split-cons_yes, slice_split-cons_no, length-slice_split}
use Rattle.std.specs.Char.{is_whitespace}
use Rattle.std.specs.List.{slice_split, onto_first}
use Rattle.glue_layout.proofs.Stripped.{skip, put, cut, strip, skip_yes, skip_no, put_no, put_none, skip-cut, strip_front}

abbrev pub is_feed : ℕ → Bool
is_feed c = c == 10

abbrev pub parts : List ℕ → List (List ℕ)
parts cs = slice_split is_feed cs

abbrev pub trimmed : List ℕ → List ℕ
trimmed cs = strip is_whitespace cs

abbrev pub is_empty : List ℕ → Bool
is_empty [] = true
is_empty (c ∷ cs) = false

-- without an empty last part
abbrev pub kept : List (List ℕ) → List (List ℕ)
kept [] = []
kept (p ∷ []) = cond (is_empty p) [] (p ∷ [])
kept (p ∷ q ∷ more) = p ∷ kept (q ∷ more)

-- the trimmed lines
abbrev pub rows : List ℕ → List (List ℕ)
rows cs = map trimmed (kept (parts cs))

pub white_feed : (c : ℕ) → is_feed c ≡ true → is_whitespace c ≡ true
white_feed c h = ap is_whitespace (eqb-true c 10 h)

-- what is no white space is no line feed
pub dark_feed : (c : ℕ) → is_whitespace c ≡ false → is_feed c ≡ false
dark_feed c h = ne_eqb c 10 (λ e. both_ways (is_whitespace c) h (ap is_whitespace e))

pub some_part : (cs : List ℕ) → 0 < length (parts cs)
some_part cs = omega (arith, length-slice_split is_feed cs)

pub kept_before : (p : List ℕ) (ps : List (List ℕ)) → 0 < length ps → kept (p ∷ ps) ≡ p ∷ kept ps
kept_before p [] h = absurd (omega (arith, h))
kept_before p (q ∷ more) h = refl

pub trimmed_dark : (c : ℕ) (cs : List ℕ) → is_whitespace c ≡ false → trimmed (c ∷ cs) ≡ c ∷ cut is_whitespace cs
trimmed_dark c cs h = ap (cut is_whitespace) (skip_no is_whitespace c cs h) ∙ put_no is_whitespace c (cut is_whitespace cs) h

-- ---- white space at the start

skip_onto : (c : ℕ) (ps : List (List ℕ)) → is_whitespace c ≡ true → skip is_empty (map trimmed (onto_first c ps)) ≡ skip is_empty (map trimmed ps)
skip_onto c [] h = ap (λ l. skip is_empty (l ∷ [])) (strip_front is_whitespace c [] h)
skip_onto c (q ∷ qs) h = ap (λ l. skip is_empty (l ∷ map trimmed qs)) (strip_front is_whitespace c q h)

skip_white : (c : ℕ) (cs : List ℕ) → is_whitespace c ≡ true → skip is_empty (map trimmed (parts (c ∷ cs))) ≡ skip is_empty (map trimmed (parts cs))
skip_white c cs h = ⊎_elim
    (λ f. ap (λ l. skip is_empty (map trimmed l)) (slice_split-cons_yes is_feed c cs f))
    (λ f. ap (λ l. skip is_empty (map trimmed l)) (slice_split-cons_no is_feed c cs f) ∙ skip_onto c (parts cs) h)
    (cases_Bool (is_feed c))

skip_parts : (cs : List ℕ) → skip is_empty (map trimmed (parts (skip is_whitespace cs))) ≡ skip is_empty (map trimmed (parts cs))
skip_parts [] = refl
skip_parts (c ∷ cs) = ⊎_elim
    (λ h. ap (λ l. skip is_empty (map trimmed (parts l))) (skip_yes is_whitespace c cs h) ∙ skip_parts cs ∙ sym (skip_white c cs h))
    (λ h. ap (λ l. skip is_empty (map trimmed (parts l))) (skip_no is_whitespace c cs h))
    (cases_Bool (is_whitespace c))

-- ---- white space at the end

-- two lists of parts are one but for white space at the ends of parts, and for blank parts at the end of the second
abbrev Agree : List (List ℕ) → List (List ℕ) → Type 0
Agree [] [] = Unit {0}
Agree [] (q ∷ qs) = ([] ≡ cut is_whitespace q) × Agree [] qs
Agree (p ∷ ps) [] = ⊥
Agree (p ∷ ps) (q ∷ qs) = (cut is_whitespace p ≡ cut is_whitespace q) × Agree ps qs

agree_blank : (qs : List (List ℕ)) → Agree ([] ∷ []) qs → Agree [] qs
agree_blank [] h = absurd h
agree_blank (q ∷ qs) h = (h.0, h.1)

agree_onto : (c : ℕ) (ps qs : List (List ℕ)) → Agree ps qs → Agree (onto_first c ps) (onto_first c qs)
agree_onto c [] [] h = (refl, tt)
agree_onto c [] (q ∷ qs) h = (ap (put is_whitespace c) h.0, h.1)
agree_onto c (p ∷ ps) [] h = absurd h
agree_onto c (p ∷ ps) (q ∷ qs) h = (ap (put is_whitespace c) h.0, h.1)

agree_onto_blank : (c : ℕ) (qs : List (List ℕ)) → is_whitespace c ≡ true → Agree ([] ∷ []) qs → Agree ([] ∷ []) (onto_first c qs)
agree_onto_blank c [] w h = absurd h
agree_onto_blank c (q ∷ qs) w h = (sym (ap (put is_whitespace c) (sym h.0) ∙ put_none is_whitespace c w), h.1)

-- at a line feed
agree_feed : (c : ℕ) (w cs : List ℕ) → is_feed c ≡ true → Agree (parts w) (parts cs) → Agree (parts (put is_whitespace c w)) ([] ∷ parts cs)
agree_feed c [] cs f h =
    let P : List ℕ → Type 0 = λ l. Agree (parts l) ([] ∷ parts cs) in
    subst P (sym (put_none is_whitespace c (white_feed c f))) (refl, agree_blank (parts cs) h)
agree_feed c (d ∷ ds) cs f h =
    let P : List (List ℕ) → Type 0 = λ l. Agree l ([] ∷ parts cs) in
    subst P (sym (slice_split-cons_yes is_feed c (d ∷ ds) f)) (refl, h)

-- at any other character
agree_other : (c : ℕ) (w cs : List ℕ) → is_feed c ≡ false → Agree (parts w) (parts cs) → Agree (parts (put is_whitespace c w)) (onto_first c (parts cs))
agree_other c [] cs f h =
    let P : List ℕ → Type 0 = λ l. Agree (parts l) (onto_first c (parts cs)) in
    ⊎_elim
    (λ w. subst P (sym (put_none is_whitespace c w)) (agree_onto_blank c (parts cs) w h))
    (λ w. let Q : List (List ℕ) → Type 0 = λ l. Agree l (onto_first c (parts cs)) in
    subst P (sym (put_no is_whitespace c [] w)) (subst Q (sym (slice_split-cons_no is_feed c [] f)) (agree_onto c ([] ∷ []) (parts cs) h)))
    (cases_Bool (is_whitespace c))
agree_other c (d ∷ ds) cs f h =
    let P : List (List ℕ) → Type 0 = λ l. Agree l (onto_first c (parts cs)) in
    subst P (sym (slice_split-cons_no is_feed c (d ∷ ds) f)) (agree_onto c (parts (d ∷ ds)) (parts cs) h)

agree_cut : (cs : List ℕ) → Agree (parts (cut is_whitespace cs)) (parts cs)
agree_cut [] = (refl, tt)
agree_cut (c ∷ cs) =
    let P : List (List ℕ) → Type 0 = λ l. Agree (parts (cut is_whitespace (c ∷ cs))) l in
    ⊎_elim
    (λ f. subst P (sym (slice_split-cons_yes is_feed c cs f)) (agree_feed c (cut is_whitespace cs) cs f (agree_cut cs)))
    (λ f. subst P (sym (slice_split-cons_no is_feed c cs f)) (agree_other c (cut is_whitespace cs) cs f (agree_cut cs)))
    (cases_Bool (is_feed c))

-- what is trimmed is what is left at both ends
trimmed_alike : (p q : List ℕ) → cut is_whitespace p ≡ cut is_whitespace q → trimmed p ≡ trimmed q
trimmed_alike p q e = sym (skip-cut is_whitespace p) ∙ ap (skip is_whitespace) e ∙ skip-cut is_whitespace q

cut_agree : (ps qs : List (List ℕ)) → Agree ps qs → cut is_empty (map trimmed ps) ≡ cut is_empty (map trimmed qs)
cut_agree [] [] h = refl
cut_agree [] (q ∷ qs) h = ap₂ (put is_empty) (trimmed_alike [] q h.0) (cut_agree [] qs h.1)
cut_agree (p ∷ ps) [] h = absurd h
cut_agree (p ∷ ps) (q ∷ qs) h = ap₂ (put is_empty) (trimmed_alike p q h.0) (cut_agree ps qs h.1)

cut_kept : (ps : List (List ℕ)) → cut is_empty (map trimmed (kept ps)) ≡ cut is_empty (map trimmed ps)
cut_kept [] = refl
cut_kept ([] ∷ []) = refl
cut_kept ((c ∷ cs) ∷ []) = refl
cut_kept (p ∷ q ∷ more) = ap (put is_empty (trimmed p)) (cut_kept (q ∷ more))

strip_kept : (ps : List (List ℕ)) → strip is_empty (map trimmed (kept ps)) ≡ strip is_empty (map trimmed ps)
strip_kept ps = sym (skip-cut is_empty (map trimmed (kept ps))) ∙ ap (skip is_empty) (cut_kept ps) ∙ skip-cut is_empty (map trimmed ps)

-- to trim a text takes away blank lines at its ends
pub rows_trimmed : (cs : List ℕ) → strip is_empty (rows (trimmed cs)) ≡ strip is_empty (rows cs)
rows_trimmed cs =
    let front : List ℕ = skip is_whitespace cs in
    strip_kept (parts (trimmed cs))
    ∙ sym (skip-cut is_empty (map trimmed (parts (cut is_whitespace front))))
    ∙ ap (skip is_empty) (cut_agree (parts (cut is_whitespace front)) (parts front) (agree_cut front))
    ∙ skip-cut is_empty (map trimmed (parts front))
    ∙ ap (cut is_empty) (skip_parts cs)
    ∙ sym (strip_kept (parts cs))
