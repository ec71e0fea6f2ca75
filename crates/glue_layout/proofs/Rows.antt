-- The rows of a trimmed text, and what laying them out makes of them.
use Rattle.std.proofs.Common.{◌≡◌, ℕ, zero, suc, false, List, [], ◌∷◌, ◌++◌, ◌<◌, map, replicate, encode_utf8_all, refl, sym, ap, ap₂, ◌∙◌, subst, ⊎_elim, arith, length}
use Rattle.std.proofs.lemmas.Bool.{cases_Bool}
use Rattle.std.proofs.lemmas.List.Splits.{slice_split-cons_yes, slice_split-cons_no}
use Rattle.std.specs.Char.{is_whitespace}
use Rattle.std.specs.List.{onto_first}
use Rattle.glue_layout.specs.Layout.{columns, level_after}
use Rattle.glue_layout.proofs.Stripped.{skip, put, cut, strip, Holds, rest, skip_no, put_no, put_some, put_none, skip-cut, strip-strip, skip_head, strip_front, strip_many, Holds-strip}
use Rattle.glue_layout.proofs.Parts.{is_feed, parts, trimmed, is_empty, kept, rows, dark_feed, some_part, kept_before, trimmed_dark, rows_trimmed}

-- ---- a trimmed text has no blank row at its ends

full_dark : (c : ℕ) (q : List ℕ) → is_whitespace c ≡ false → is_empty (trimmed (c ∷ q)) ≡ false
full_dark c q h = ap is_empty (trimmed_dark c q h)

-- a character more leaves a row that isn't blank so
full_more : (c : ℕ) (q : List ℕ) → is_empty (trimmed q) ≡ false → is_empty (trimmed (c ∷ q)) ≡ false
full_more c q h = ⊎_elim
    (λ w. ap is_empty (strip_front is_whitespace c q w) ∙ h)
    (λ w. full_dark c q w)
    (cases_Bool (is_whitespace c))

skip_dark : (c : ℕ) (ps : List (List ℕ)) → is_whitespace c ≡ false → skip is_empty (map trimmed (kept (onto_first c ps))) ≡ map trimmed (kept (onto_first c ps))
skip_dark c [] h = skip_no is_empty (trimmed (c ∷ [])) [] (full_dark c [] h)
skip_dark c (q ∷ []) h = skip_no is_empty (trimmed (c ∷ q)) [] (full_dark c q h)
skip_dark c (q ∷ r ∷ more) h = skip_no is_empty (trimmed (c ∷ q)) (map trimmed (kept (r ∷ more))) (full_dark c q h)

skip_rows : (c : ℕ) (cs : List ℕ) → is_whitespace c ≡ false → skip is_empty (rows (c ∷ cs)) ≡ rows (c ∷ cs)
skip_rows c cs h =
    let P : List (List ℕ) → Type 0 = λ l. skip is_empty (map trimmed (kept l)) ≡ map trimmed (kept l) in
    subst P (sym (slice_split-cons_no is_feed c cs (dark_feed c h))) (skip_dark c (parts cs) h)

some_onto : (d : ℕ) (ps : List (List ℕ)) → 0 < length (map trimmed (kept (onto_first d ps)))
some_onto d [] = omega arith
some_onto d (q ∷ []) = omega arith
some_onto d (q ∷ r ∷ more) = omega arith

some_row : (d : ℕ) (ds : List ℕ) → 0 < length (rows (d ∷ ds))
some_row d ds =
    let P : List (List ℕ) → Type 0 = λ l. 0 < length (map trimmed (kept l)) in
    let Q : List (List ℕ) → Type 0 = λ l. 0 < length (map trimmed l) in
    ⊎_elim
    (λ f. subst P (sym (slice_split-cons_yes is_feed d ds f)) (subst Q (sym (kept_before [] (parts ds) (some_part ds))) (omega arith)))
    (λ f. subst P (sym (slice_split-cons_no is_feed d ds f)) (some_onto d (parts ds)))
    (cases_Bool (is_feed d))

-- the first row may be another, if it isn't blank
swap_none : (x y : List ℕ) (xs : List (List ℕ)) → (is_empty x ≡ false → is_empty y ≡ false) → put is_empty x [] ≡ x ∷ xs → put is_empty y [] ≡ y ∷ xs
swap_none [] y xs full e = absurd cc
swap_none (c ∷ cs) y xs full e = put_no is_empty y [] (full refl) ∙ ap (λ l. y ∷ rest l) e

swap_first : (x y : List ℕ) (xs zs : List (List ℕ)) → (is_empty x ≡ false → is_empty y ≡ false) → put is_empty x zs ≡ x ∷ xs → put is_empty y zs ≡ y ∷ xs
swap_first x y xs [] full e = swap_none x y xs full e
swap_first x y xs (z ∷ zs) full e = ap (λ l. y ∷ rest l) e

cut_onto : (c : ℕ) (ps : List (List ℕ)) → 0 < length (map trimmed (kept ps)) → cut is_empty (map trimmed (kept ps)) ≡ map trimmed (kept ps)
    → cut is_empty (map trimmed (kept (onto_first c ps))) ≡ map trimmed (kept (onto_first c ps))
cut_onto c [] some e = absurd (omega (arith, some))
cut_onto c ([] ∷ []) some e = absurd (omega (arith, some))
cut_onto c ((d ∷ ds) ∷ []) some e = swap_first (trimmed (d ∷ ds)) (trimmed (c ∷ d ∷ ds)) [] [] (full_more c (d ∷ ds)) e
cut_onto c (q ∷ r ∷ more) some e =
    let xs : List (List ℕ) = map trimmed (kept (r ∷ more)) in
    swap_first (trimmed q) (trimmed (c ∷ q)) xs (cut is_empty xs) (full_more c q) e

cut_one : (c : ℕ) → is_whitespace c ≡ false → cut is_empty (rows (c ∷ [])) ≡ rows (c ∷ [])
cut_one c h =
    let P : List (List ℕ) → Type 0 = λ l. cut is_empty (map trimmed (kept l)) ≡ map trimmed (kept l) in
    subst P (sym (slice_split-cons_no is_feed c [] (dark_feed c h))) (put_no is_empty (trimmed (c ∷ [])) [] (full_dark c [] h))

cut_put : (c : ℕ) (w : List ℕ) → cut is_empty (rows w) ≡ rows w → cut is_empty (rows (put is_whitespace c w)) ≡ rows (put is_whitespace c w)
cut_put c [] e =
    let P : List ℕ → Type 0 = λ l. cut is_empty (rows l) ≡ rows l in
    ⊎_elim
    (λ h. subst P (sym (put_none is_whitespace c h)) refl)
    (λ h. subst P (sym (put_no is_whitespace c [] h)) (cut_one c h))
    (cases_Bool (is_whitespace c))
cut_put c (d ∷ ds) e =
    let P : List (List ℕ) → Type 0 = λ l. cut is_empty (map trimmed (kept l)) ≡ map trimmed (kept l) in
    let Q : List (List ℕ) → Type 0 = λ l. cut is_empty (map trimmed l) ≡ map trimmed l in
    let below : List (List ℕ) = rows (d ∷ ds) in
    ⊎_elim
    (λ f. subst P (sym (slice_split-cons_yes is_feed c (d ∷ ds) f)) (subst Q (sym (kept_before [] (parts (d ∷ ds)) (some_part (d ∷ ds))))
    (ap (put is_empty []) e ∙ put_some is_empty [] below (some_row d ds))))
    (λ f. subst P (sym (slice_split-cons_no is_feed c (d ∷ ds) f)) (cut_onto c (parts (d ∷ ds)) (some_row d ds) e))
    (cases_Bool (is_feed c))

cut_rows : (cs : List ℕ) → cut is_empty (rows (cut is_whitespace cs)) ≡ rows (cut is_whitespace cs)
cut_rows [] = refl
cut_rows (c ∷ cs) = cut_put c (cut is_whitespace cs) (cut_rows cs)

skip_starts : (u cs : List ℕ) → skip is_whitespace cs ≡ u → skip is_empty (rows u) ≡ rows u
skip_starts [] cs e = refl
skip_starts (c ∷ v) cs e = skip_rows c v (skip_head is_whitespace cs c v e)

-- the rows of a trimmed text begin and end with rows that aren't blank
full_ends : (cs : List ℕ) → strip is_empty (rows (trimmed cs)) ≡ rows (trimmed cs)
full_ends cs =
    ap (cut is_empty) (skip_starts (trimmed cs) (cut is_whitespace cs) (skip-cut is_whitespace cs)) ∙ cut_rows (skip is_whitespace cs)

-- ---- rows that are laid out

-- no character is a line feed
abbrev pub LacksFeed : List ℕ → Type 0
LacksFeed cs = Holds (λ c. is_feed c ≡ false) cs

-- a row between spaces and a line feed
abbrev pub laid_row : ℕ → List ℕ → List ℕ
laid_row n row = replicate n 32 ++ (row ++ 10 ∷ [])

-- rows one after another, as `laid_lines` lays out their bytes
abbrev pub laid_rows : ℕ → List (List ℕ) → List ℕ
laid_rows level [] = []
laid_rows level (row ∷ more) =
    laid_row (columns level (encode_utf8_all row)) row ++ laid_rows (level_after level (encode_utf8_all row)) more

parts_row : (row more : List ℕ) → LacksFeed row → parts ((row ++ 10 ∷ []) ++ more) ≡ row ∷ parts more
parts_row [] more h = refl
parts_row (c ∷ cs) more h = slice_split-cons_no is_feed c ((cs ++ 10 ∷ []) ++ more) h.0 ∙ ap (onto_first c) (parts_row cs more h.1)

parts_laid : (n : ℕ) (row more : List ℕ) → LacksFeed row → parts (laid_row n row ++ more) ≡ (replicate n 32 ++ row) ∷ parts more
parts_laid zero row more h = parts_row row more h
parts_laid (suc n) row more h = ap (onto_first 32) (parts_laid n row more h)

rows_laid : (level : ℕ) (ls : List (List ℕ)) → Holds LacksFeed ls → rows (laid_rows level ls) ≡ map trimmed ls
rows_laid level [] h = refl
rows_laid level (row ∷ more) h =
    let n : ℕ = columns level (encode_utf8_all row) in
    let after : List ℕ = laid_rows (level_after level (encode_utf8_all row)) more in
    ap (λ l. map trimmed (kept l)) (parts_laid n row after h.0)
    ∙ ap (map trimmed) (kept_before (replicate n 32 ++ row) (parts after) (some_part after))
    ∙ ap₂ (λ x xs. x ∷ xs) (strip_many is_whitespace n 32 row refl) (rows_laid (level_after level (encode_utf8_all row)) more h.1)

-- ---- what the rows of a text have

holds_onto : (P : ℕ → Type 0) (c : ℕ) (ps : List (List ℕ)) → P c → Holds (λ p. Holds P p) ps → Holds (λ p. Holds P p) (onto_first c ps)
holds_onto P c [] a h = ((a, tt), tt)
holds_onto P c (p ∷ ps) a h = ((a, h.0), h.1)

pub holds_parts : (P : ℕ → Type 0) (cs : List ℕ) → Holds P cs → Holds (λ p. Holds P p) (parts cs)
holds_parts P [] h = (tt, tt)
holds_parts P (c ∷ cs) h =
    let Q : List (List ℕ) → Type 0 = λ l. Holds (λ p. Holds P p) l in
    ⊎_elim
    (λ f. subst Q (sym (slice_split-cons_yes is_feed c cs f)) (tt, holds_parts P cs h.1))
    (λ f. subst Q (sym (slice_split-cons_no is_feed c cs f)) (holds_onto P c (parts cs) h.0 (holds_parts P cs h.1)))
    (cases_Bool (is_feed c))

lacks_parts : (cs : List ℕ) → Holds LacksFeed (parts cs)
lacks_parts [] = (tt, tt)
lacks_parts (c ∷ cs) =
    let Q : List (List ℕ) → Type 0 = λ l. Holds LacksFeed l in
    ⊎_elim
    (λ f. subst Q (sym (slice_split-cons_yes is_feed c cs f)) (tt, lacks_parts cs))
    (λ f. subst Q (sym (slice_split-cons_no is_feed c cs f)) (holds_onto (λ d. is_feed d ≡ false) c (parts cs) f (lacks_parts cs)))
    (cases_Bool (is_feed c))

holds_kept : (P : List ℕ → Type 0) (ps : List (List ℕ)) → Holds P ps → Holds P (kept ps)
holds_kept P [] h = tt
holds_kept P ([] ∷ []) h = tt
holds_kept P ((c ∷ cs) ∷ []) h = h
holds_kept P (p ∷ q ∷ more) h = (h.0, holds_kept P (q ∷ more) h.1)

holds_trimmed : (P : ℕ → Type 0) (ps : List (List ℕ)) → Holds (λ p. Holds P p) ps → Holds (λ p. Holds P p) (map trimmed ps)
holds_trimmed P [] h = tt
holds_trimmed P (p ∷ ps) h = (Holds-strip P is_whitespace p h.0, holds_trimmed P ps h.1)

pub holds_rows : (P : ℕ → Type 0) (cs : List ℕ) → Holds P cs → Holds (λ p. Holds P p) (rows cs)
holds_rows P cs h = holds_trimmed P (kept (parts cs)) (holds_kept (λ p. Holds P p) (parts cs) (holds_parts P cs h))

lacks_rows : (cs : List ℕ) → Holds LacksFeed (rows cs)
lacks_rows cs = holds_trimmed (λ c. is_feed c ≡ false) (kept (parts cs)) (holds_kept LacksFeed (parts cs) (lacks_parts cs))

trimmed_twice : (ps : List (List ℕ)) → map trimmed (map trimmed ps) ≡ map trimmed ps
trimmed_twice [] = refl
trimmed_twice (p ∷ ps) = ap₂ (λ x xs. x ∷ xs) (strip-strip is_whitespace p) (trimmed_twice ps)

-- ---- the two laws

-- the trimmed rows of what was laid out are the rows
pub rows_kept : (level : ℕ) (cs : List ℕ) → rows (laid_rows level (rows cs)) ≡ rows cs
rows_kept level cs = rows_laid level (rows cs) (lacks_rows cs) ∙ trimmed_twice (kept (parts cs))

-- and so are those of its trimmed text, where the text was trimmed before
pub rows_again : (level : ℕ) (cs : List ℕ) → rows (trimmed (laid_rows level (rows (trimmed cs)))) ≡ rows (trimmed cs)
rows_again level cs =
    let laid : List ℕ = laid_rows level (rows (trimmed cs)) in
    sym (full_ends laid) ∙ rows_trimmed laid ∙ ap (strip is_empty) (rows_kept level (trimmed cs)) ∙ full_ends cs
