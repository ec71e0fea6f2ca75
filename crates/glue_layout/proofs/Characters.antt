-- The layout of bytes, by the characters that the bytes spell.
use Rattle.std.proofs.Common.{◌≡◌, ℕ, zero, suc, true, false, cond, ◌&&◌, List, [], ◌∷◌, ◌++◌, ◌==◌, ◌-◌, ◌<◌, map, replicate, length, get_or, take, encode_utf8_all, encode_utf8, chars, IsUtf8, refl, sym, ap, ap₂, ◌∙◌, subst, ⊎_elim, arith, lit<, append-nil, take-append-drop, drop_of_length-le, eqb-true, eq-eqb, ne_eqb}
use Rattle.std.proofs.lemmas.Bool.{cases_Bool, both_ways, and_from, and_parts}
use Rattle.std.proofs.lemmas.List.{drop_more}
use Rattle.std.proofs.lemmas.List.Splits.{slice_split-cons_yes, slice_split-cons_no}
use Rattle.std.proofs.lemmas.Str.{chars-encodes, encodes-append, encode_ascii, encodes_same, IsUtf8-take, IsCharBoundary-before_ascii, inside_one, length-le-encodes}
use Rattle.std.specs.Char.{is_whitespace}
use Rattle.std.specs.List.{onto_first}
use Rattle.std.specs.Str.{all_scalars, skip_leading_whitespace, drop_trailing_whitespace, trim, trim_start, trim_end}
use Rattle.std.specs.Str.Lines.{lines, lines_of_parts, strip_carriage_return}
use Rattle.glue_layout.specs.Layout.{columns, indented, laid_line, laid_lines, level_after, trimmed_lines}
use Rattle.glue_layout.proofs.Stripped.{skip, put, cut, Holds, strip_last, Holds-skip, Holds-strip}
use Rattle.glue_layout.proofs.Parts.{is_feed, parts, trimmed, kept, rows, some_part}
use Rattle.glue_layout.proofs.Rows.{LacksFeed, laid_row, laid_rows, holds_parts, holds_rows, rows_kept, rows_again}

-- each number is the code of a character
abbrev pub AreScalars : List ℕ → Type 0
AreScalars cs = Holds (λ c. all_scalars (c ∷ []) ≡ true) cs

scalars_true : (cs : List ℕ) → AreScalars cs → all_scalars cs ≡ true
scalars_true [] h = refl
scalars_true (c ∷ cs) h = and_from _ _ (and_parts _ true h.0).0 (scalars_true cs h.1)

true_scalars : (cs : List ℕ) → all_scalars cs ≡ true → AreScalars cs
true_scalars [] h = tt
true_scalars (c ∷ cs) h = (and_from _ true (and_parts _ (all_scalars cs) h).0 refl, true_scalars cs (and_parts _ (all_scalars cs) h).1)

-- ---- `trim`

skip_same : (cs : List ℕ) → skip_leading_whitespace cs ≡ skip is_whitespace cs
skip_same [] = refl
skip_same (c ∷ cs) = ap (λ l. cond (is_whitespace c) l (c ∷ cs)) (skip_same cs)

put_same : (c : ℕ) (cs : List ℕ) → cond (is_whitespace c && length cs == 0) [] (c ∷ cs) ≡ put is_whitespace c cs
put_same c [] = elim (is_whitespace c) as (λ b. cond (b && true) [] (c ∷ []) ≡ cond b [] (c ∷ [])) [ true ↦ refl | false ↦ refl ]
put_same c (d ∷ ds) =
    let full : (length (d ∷ ds) == 0) ≡ false = ne_eqb (length (d ∷ ds)) 0 (λ e. omega arith) in
    elim (is_whitespace c) as (λ b. cond (b && length (d ∷ ds) == 0) [] (c ∷ d ∷ ds) ≡ c ∷ d ∷ ds) [ true ↦ ap (λ b. cond b [] (c ∷ d ∷ ds)) full | false ↦ refl ]

cut_same : (cs : List ℕ) → drop_trailing_whitespace cs ≡ cut is_whitespace cs
cut_same [] = refl
cut_same (c ∷ cs) = put_same c (drop_trailing_whitespace cs) ∙ ap (put is_whitespace c) (cut_same cs)

trim_chars : (cs : List ℕ) → AreScalars cs → trim (encode_utf8_all cs) ≡ encode_utf8_all (trimmed cs)
unfolding trim_start trim_end
trim_chars cs h =
    let after : List ℕ → List ℕ = λ l. encode_utf8_all (drop_trailing_whitespace l) in
    ap (λ l. after (chars (encode_utf8_all (skip_leading_whitespace l)))) (chars-encodes cs (scalars_true cs h))
    ∙ ap (λ l. after (chars (encode_utf8_all l))) (skip_same cs)
    ∙ ap after (chars-encodes (skip is_whitespace cs) (scalars_true (skip is_whitespace cs) (Holds-skip (λ c. all_scalars (c ∷ []) ≡ true) is_whitespace cs h)))
    ∙ ap encode_utf8_all (cut_same (skip is_whitespace cs))

-- ---- `lines`

lacks_from : (xs : List ℕ) → ((k : ℕ) → k < length xs → get_or xs k 0 ≡ 10 → ⊥) → LacksFeed xs
lacks_from [] h = tt
lacks_from (x ∷ xs) h = (ne_eqb x 10 (h 0 (omega arith)), lacks_from xs (λ k l. h (suc k) (omega (arith, l))))

-- a line feed is no byte of another character
encode_lacks : (c : ℕ) → is_feed c ≡ false → LacksFeed (encode_utf8 c)
encode_lacks c f = lacks_from (encode_utf8 c)
    (λ k l e. both_ways (is_feed c) f (eq-eqb c 10 (inside_one c [] (encode_utf8 c) k (sym (append-nil (encode_utf8 c))) l (subst (λ n. n < 128) (sym e) (lit< tt)) ∙ e)))

abbrev onto : List ℕ → List (List ℕ) → List (List ℕ)
onto [] ps = ps
onto (x ∷ xs) ps = onto_first x (onto xs ps)

parts_onto : (xs ys : List ℕ) → LacksFeed xs → parts (xs ++ ys) ≡ onto xs (parts ys)
parts_onto [] ys h = refl
parts_onto (x ∷ xs) ys h = slice_split-cons_no is_feed x (xs ++ ys) h.0 ∙ ap (onto_first x) (parts_onto xs ys h.1)

onto_parts : (xs q : List ℕ) (qs : List (List ℕ)) → onto xs (q ∷ qs) ≡ (xs ++ q) ∷ qs
onto_parts [] q qs = refl
onto_parts (x ∷ xs) q qs = ap (onto_first x) (onto_parts xs q qs)

onto_encoded : (c : ℕ) (ps : List (List ℕ)) → 0 < length ps → onto (encode_utf8 c) (map encode_utf8_all ps) ≡ map encode_utf8_all (onto_first c ps)
onto_encoded c [] some = absurd (omega (arith, some))
onto_encoded c (q ∷ qs) some = onto_parts (encode_utf8 c) (encode_utf8_all q) (map encode_utf8_all qs)

parts_chars : (cs : List ℕ) → parts (encode_utf8_all cs) ≡ map encode_utf8_all (parts cs)
parts_chars [] = refl
parts_chars (c ∷ cs) = ⊎_elim
    (λ f. ap (λ l. parts (l ++ encode_utf8_all cs)) (ap encode_utf8 (eqb-true c 10 f) ∙ encode_ascii 10 (lit< tt))
    ∙ ap (λ l. [] ∷ l) (parts_chars cs) ∙ sym (ap (map encode_utf8_all) (slice_split-cons_yes is_feed c cs f)))
    (λ f. parts_onto (encode_utf8 c) (encode_utf8_all cs) (encode_lacks c f) ∙ ap (onto (encode_utf8 c)) (parts_chars cs)
    ∙ onto_encoded c (parts cs) (some_part cs) ∙ sym (ap (map encode_utf8_all) (slice_split-cons_no is_feed c cs f)))
    (cases_Bool (is_feed c))

some_last : (l : List ℕ) → get_or l (length l - 1) 0 ≡ 13 → 0 < length l
some_last [] e = absurd cc
some_last (x ∷ xs) e = omega arith

split_last : (l : List ℕ) → get_or l (length l - 1) 0 ≡ 13 → l ≡ take (length l - 1) l ++ 13 ∷ []
split_last l e =
    let n : ℕ = length l - 1 in
    let some : 0 < length l = some_last l e in
    sym (take-append-drop n l)
    ∙ ap (λ r. take n l ++ r) (drop_more l n 0 (omega (arith, some)) ∙ ap₂ (λ x xs. x ∷ xs) e (drop_of_length-le l (omega (arith, some))))

-- the characters before a last carriage return
trim_before : (cs ds y : List ℕ) → AreScalars ds → encode_utf8_all ds ≡ y → encode_utf8_all cs ≡ y ++ 13 ∷ [] → trim y ≡ encode_utf8_all (trimmed cs)
trim_before cs ds y h e whole =
    let same : cs ≡ ds ++ 13 ∷ [] =
    encodes_same cs (ds ++ 13 ∷ []) (whole ∙ ap₂ (λ a b. a ++ b) (sym e) (sym (ap (λ l. l ++ []) (encode_ascii 13 (lit< tt)))) ∙ sym (encodes-append ds (13 ∷ []))) in
    ap trim (sym e) ∙ trim_chars ds h ∙ ap encode_utf8_all (sym (strip_last is_whitespace ds 13 refl) ∙ ap trimmed (sym same))

-- a carriage return at the end of a line is trimmed away in any case
trim_stripped : (cs : List ℕ) → AreScalars cs → trim (strip_carriage_return (encode_utf8_all cs)) ≡ encode_utf8_all (trimmed cs)
trim_stripped cs h =
    let l : List ℕ = encode_utf8_all cs in
    let n : ℕ = length l - 1 in
    ⊎_elim
    (λ f. let e : get_or l n 0 ≡ 13 = eqb-true _ 13 f in
    let utf8 : IsUtf8 l = (cs, (scalars_true cs h, refl)) in
    let front : IsUtf8 (take n l) = IsUtf8-take l n utf8 (IsCharBoundary-before_ascii l n (omega (arith, some_last l e)) (subst (λ b. b < 128) (sym e) (lit< tt))) in
    ap (λ b. trim (cond b (take n l) l)) f ∙ trim_before cs front.0 (take n l) (true_scalars front.0 front.1.0) front.1.1 (split_last l e))
    (λ f. ap (λ b. trim (cond b (take n l) l)) f ∙ trim_chars cs h)
    (cases_Bool (get_or l n 0 == 13))

lines_parts : (ps : List (List ℕ)) → Holds AreScalars ps → map trim (lines_of_parts (map encode_utf8_all ps)) ≡ map encode_utf8_all (map trimmed (kept ps))
lines_parts [] h = refl
lines_parts ([] ∷ []) h = refl
lines_parts ((c ∷ cs) ∷ []) h =
    let l : List ℕ = encode_utf8_all (c ∷ cs) in
    let full : (length l == 0) ≡ false = ne_eqb (length l) 0 (λ e. omega (arith, e, length-le-encodes (c ∷ cs))) in
    ap (λ b. map trim (cond b [] (l ∷ []))) full ∙ ap (λ r. r ∷ []) (trim_chars (c ∷ cs) h.0)
lines_parts (p ∷ q ∷ more) h = ap₂ (λ r rs. r ∷ rs) (trim_stripped p h.0) (lines_parts (q ∷ more) h.1)

lines_chars : (cs : List ℕ) → AreScalars cs → map trim (lines (encode_utf8_all cs)) ≡ map encode_utf8_all (rows cs)
lines_chars cs h = ap (λ l. map trim (lines_of_parts l)) (parts_chars cs) ∙ lines_parts (parts cs) (holds_parts (λ c. all_scalars (c ∷ []) ≡ true) cs h)

trimmed_chars : (cs : List ℕ) → AreScalars cs → trimmed_lines (encode_utf8_all cs) ≡ map encode_utf8_all (rows (trimmed cs))
trimmed_chars cs h =
    ap (λ l. map trim (lines l)) (trim_chars cs h) ∙ lines_chars (trimmed cs) (Holds-strip (λ c. all_scalars (c ∷ []) ≡ true) is_whitespace cs h)

-- ---- the layout

encode_spaces : (n : ℕ) → encode_utf8_all (replicate n 32) ≡ replicate n 32
encode_spaces zero = refl
encode_spaces (suc n) = ap₂ (λ a b. a ++ b) (encode_ascii 32 (lit< tt)) (encode_spaces n)

laid_line_chars : (level : ℕ) (row : List ℕ) → laid_line level (encode_utf8_all row) ≡ encode_utf8_all (laid_row (columns level (encode_utf8_all row)) row)
unfolding laid_line
laid_line_chars level row =
    let n : ℕ = columns level (encode_utf8_all row) in
    let feed : encode_utf8_all (10 ∷ []) ≡ 10 ∷ [] = ap (λ l. l ++ []) (encode_ascii 10 (lit< tt)) in
    sym (encodes-append (replicate n 32) (row ++ 10 ∷ [])
    ∙ ap₂ (λ a b. a ++ b) (encode_spaces n) (encodes-append row (10 ∷ []) ∙ ap (λ l. encode_utf8_all row ++ l) feed))

laid_chars : (level : ℕ) (ls : List (List ℕ)) → laid_lines level (map encode_utf8_all ls) ≡ encode_utf8_all (laid_rows level ls)
laid_chars level [] = refl
laid_chars level (row ∷ more) =
    let text : List ℕ = encode_utf8_all row in
    ap₂ (λ a b. a ++ b) (laid_line_chars level row) (laid_chars (level_after level text) more)
    ∙ sym (encodes-append (laid_row (columns level text) row) (laid_rows (level_after level text) more))

scalars_append : (xs ys : List ℕ) → AreScalars xs → AreScalars ys → AreScalars (xs ++ ys)
scalars_append [] ys h k = k
scalars_append (x ∷ xs) ys h k = (h.0, scalars_append xs ys h.1 k)

scalars_spaces : (n : ℕ) → AreScalars (replicate n 32)
scalars_spaces zero = tt
scalars_spaces (suc n) = (refl, scalars_spaces n)

scalars_laid : (level : ℕ) (ls : List (List ℕ)) → Holds AreScalars ls → AreScalars (laid_rows level ls)
scalars_laid level [] h = tt
scalars_laid level (row ∷ more) h =
    let n : ℕ = columns level (encode_utf8_all row) in
    scalars_append (laid_row n row) (laid_rows (level_after level (encode_utf8_all row)) more)
    (scalars_append (replicate n 32) (row ++ 10 ∷ []) (scalars_spaces n) (scalars_append row (10 ∷ []) h.0 (refl, tt)))
    (scalars_laid (level_after level (encode_utf8_all row)) more h.1)

-- the characters of a layout
indented_chars : (cs : List ℕ) → AreScalars cs → indented (encode_utf8_all cs) ≡ encode_utf8_all (laid_rows 0 (rows (trimmed cs)))
indented_chars cs h = ap (laid_lines 0) (trimmed_chars cs h) ∙ laid_chars 0 (rows (trimmed cs))

scalars_indented : (cs : List ℕ) → AreScalars cs → AreScalars (laid_rows 0 (rows (trimmed cs)))
scalars_indented cs h =
    scalars_laid 0 (rows (trimmed cs))
    (holds_rows (λ c. all_scalars (c ∷ []) ≡ true) (trimmed cs) (Holds-strip (λ c. all_scalars (c ∷ []) ≡ true) is_whitespace cs h))

keeps_chars : (cs : List ℕ) → AreScalars cs → map trim (lines (indented (encode_utf8_all cs))) ≡ trimmed_lines (encode_utf8_all cs)
keeps_chars cs h =
    ap (λ l. map trim (lines l)) (indented_chars cs h)
    ∙ lines_chars (laid_rows 0 (rows (trimmed cs))) (scalars_indented cs h)
    ∙ ap (map encode_utf8_all) (rows_kept 0 (trimmed cs))
    ∙ sym (trimmed_chars cs h)

twice_chars : (cs : List ℕ) → AreScalars cs → trimmed_lines (indented (encode_utf8_all cs)) ≡ trimmed_lines (encode_utf8_all cs)
twice_chars cs h =
    ap trimmed_lines (indented_chars cs h)
    ∙ trimmed_chars (laid_rows 0 (rows (trimmed cs))) (scalars_indented cs h)
    ∙ ap (map encode_utf8_all) (rows_again 0 cs)
    ∙ sym (trimmed_chars cs h)

-- the trimmed lines of a layout are those of the trimmed text
pub keeps_lines : (text : List ℕ) → IsUtf8 text → map trim (lines (indented text)) ≡ trimmed_lines text
keeps_lines text u = subst (λ l. map trim (lines (indented l)) ≡ trimmed_lines l) u.1.1 (keeps_chars u.0 (true_scalars u.0 u.1.0))

-- a layout is laid out already
pub indented_twice : (text : List ℕ) → IsUtf8 text → indented (indented text) ≡ indented text
indented_twice text u = ap (laid_lines 0) (subst (λ l. trimmed_lines (indented l) ≡ trimmed_lines l) u.1.1 (twice_chars u.0 (true_scalars u.0 u.1.0)))
