-- Steps of the loops: what reading from a place is, where the element there is known.
use Rattle.std.proofs.Common.{◌≡◌, ◌+◌, ◌<◌, ◌≤◌, ◌≢◌, ◌∷◌, ◌∙◌, ◌&&◌, ◌==◌, not, [], List, ℕ, Bool, true, false}
use Rattle.std.proofs.Common.{length, drop, take, get_or, refl, sym, ap, arith, add-one, drop-cons, length-take}
use Rattle.std.proofs.Common.{length-drop}
use Rattle.std.specs.Prelude.{◌-◌, ◌*◌, ◌^◌, suc, Option, Some, None, min, nat_lt, if◌then◌else◌}
use Rattle.std.specs.List.{fold}
use Rattle.std.specs.Str.{bytes_eq}
use Rattle.std.proofs.lemmas.Bool.{false_from_ne_true, true≢false, lt-ltb, le-ltb}
use Rattle.std.proofs.lemmas.Bool.Decides.{Decides-eqb}
use Rattle.std.proofs.lemmas.List.{drop_all}
use Rattle.std.proofs.lemmas.List.Sums.{prefix_len-drop_yes, prefix_len-drop_no, prefix_len-drop_all}
use Rattle.glue_words.specs.Limits.{is_end, is_brace, is_template_rest}
use Rattle.glue_marked.specs.Marked.{place_of, quote_len, template_len, digit_added}

pub place_hit : (text entry : List ℕ) (table : List (List ℕ)) (i : ℕ) → i < length table → entry ≡ get_or table i []
    → bytes_eq entry text ≡ true → place_of text i (drop i table) ≡ Some i
unfolding place_of
place_hit text entry table i h e t = rw (drop-cons table i [], ← e, t, place_of) refl

pub place_miss : (text entry : List ℕ) (table : List (List ℕ)) (i : ℕ) → i < length table → entry ≡ get_or table i []
    → bytes_eq entry text ≡ false → place_of text i (drop i table) ≡ place_of text (i + 1) (drop (i + 1) table)
unfolding place_of
place_miss text entry table i h e t = rw (drop-cons table i [], ← e, t, place_of, add-one) refl

pub quote_goes : (bytes : List ℕ) (i : ℕ) (escaped : Bool) → i < length bytes
    → (not escaped && (get_or bytes i 0 == 34)) ≡ false
    → quote_len escaped (drop i bytes) ≡ 1 + quote_len (not escaped && (get_or bytes i 0 == 92)) (drop (i + 1) bytes)
unfolding quote_len
quote_goes bytes i true h e = rw (add-one, drop-cons bytes i 0) refl
quote_goes bytes i false h e =
    let k : (get_or bytes i 0 == 34) ≡ false = e in rw (add-one, drop-cons bytes i 0, k, quote_len) refl

pub quote_stops : (bytes : List ℕ) (i : ℕ) (escaped : Bool) → i < length bytes → escaped ≡ false
    → get_or bytes i 0 ≡ 34 → quote_len escaped (drop i bytes) ≡ 1
unfolding quote_len
quote_stops bytes i true h e b = absurd (true≢false e)
quote_stops bytes i false h e b = rw (drop-cons bytes i 0, b) refl

pub template_stops : (bytes : List ℕ) (i : ℕ) → i < length bytes → get_or bytes i 0 ≡ 96
    → template_len (drop i bytes) ≡ 1
unfolding template_len
template_stops bytes i h b = rw (drop-cons bytes i 0, b) refl

dollar_len : (b : ℕ) (bs : List ℕ) → b ≡ 36 → template_len (b ∷ bs) ≡ length (take 2 (b ∷ bs))
unfolding template_len
dollar_len b bs e = rw e refl

pub template_opens : (bytes : List ℕ) (i : ℕ) → i < length bytes → get_or bytes i 0 ≡ 36
    → template_len (drop i bytes) ≡ min (length bytes - i) 2
template_opens bytes i h b =
    let e : template_len (drop i bytes)
    ≡ length (take 2 (drop i bytes)) = rw (drop-cons bytes i 0)
    (dollar_len (get_or bytes i 0) (drop (suc i) bytes) b) in
    e ∙ simp (length-take, length-drop) (omega arith)

pub template_goes : (bytes : List ℕ) (i : ℕ) → i < length bytes → get_or bytes i 0 ≢ 96 → get_or bytes i 0 ≢ 36
    → template_len (drop i bytes) ≡ 1 + template_len (drop (i + 1) bytes)
unfolding template_len
template_goes bytes i h b d =
    rw (
      drop-cons bytes i 0,
      false_from_ne_true (get_or bytes i 0 == 96) (λ t. b ((Decides-eqb (get_or bytes i 0) 96).0 t)),
      false_from_ne_true (get_or bytes i 0 == 36) (λ t. d ((Decides-eqb (get_or bytes i 0) 36).0 t)),
      template_len,
      add-one,
    ) refl

pub quote_ends : (bytes : List ℕ) (i : ℕ) (escaped : Bool) → length bytes ≤ i → quote_len escaped (drop i bytes) ≡ 0
unfolding quote_len
quote_ends bytes i escaped h = rw (drop_all i bytes h) refl

pub template_ends : (bytes : List ℕ) (i : ℕ) → length bytes ≤ i → template_len (drop i bytes) ≡ 0
unfolding template_len
template_ends bytes i h = rw (drop_all i bytes h) refl

pub place_end : (text : List ℕ) (table : List (List ℕ)) (i : ℕ) → length table ≤ i
    → place_of text i (drop i table) ≡ None
unfolding place_of
place_end text table i h = rw (drop_all i table h) refl

pub ruleset runs = (
  prefix_len-drop_yes,
  prefix_len-drop_no,
  prefix_len-drop_all,
  quote_goes,
  quote_stops,
  template_stops,
  template_opens,
  template_goes,
  quote_ends,
  template_ends,
  length-take,
  length-drop,
)

-- ---- numbers

pub no_number : (digits : List ℕ) → fold digit_added None digits ≡ None
unfolding digit_added
no_number [] = refl
no_number (d ∷ ds) = no_number ds

added : (n d : ℕ) → n * 10 + (d - 48) < 2 ^ 63 → digit_added (Some n) d ≡ Some (n * 10 + (d - 48))
unfolding digit_added
added n d fits = rw (lt-ltb (n * 10 + (d - 48)) (2 ^ 63) fits, digit_added) refl

not_added : (n d : ℕ) → 2 ^ 63 ≤ n * 10 + (d - 48) → digit_added (Some n) d ≡ None
unfolding digit_added
not_added n d much = rw (le-ltb (n * 10 + (d - 48)) (2 ^ 63) much, digit_added) refl

pub number_goes : (digits : List ℕ) (i n : ℕ) → i < length digits → n * 10 + (get_or digits i 0 - 48) < 2 ^ 63
    → fold digit_added (Some n) (drop i digits)
    ≡ fold digit_added (Some (n * 10 + (get_or digits i 0 - 48))) (drop (i + 1) digits)
number_goes digits i n h fits =
    rw (add-one, drop-cons digits i 0)
    (ap (λ (x : Option ℕ). fold digit_added x (drop (suc i) digits)) (added n (get_or digits i 0) fits))

pub number_stops : (digits : List ℕ) (i n : ℕ) → i < length digits → 2 ^ 63 ≤ n * 10 + (get_or digits i 0 - 48)
    → fold digit_added (Some n) (drop i digits) ≡ None
number_stops digits i n h much =
    rw (drop-cons digits i 0)
    (ap (λ (x : Option ℕ). fold digit_added x (drop (suc i) digits)) (not_added n (get_or digits i 0) much))
    ∙ no_number (drop (suc i) digits)

-- ---- templates

pub end_is : (bytes : List ℕ) → is_end bytes ≡ (length bytes == 0)
end_is [] = refl
end_is (b ∷ bs) =
    sym (false_from_ne_true (length (b ∷ bs) == 0) (λ t. let e = (Decides-eqb (length (b ∷ bs)) 0).0 t in omega arith))

pub brace_is : (bytes : List ℕ) → is_brace bytes ≡ bytes_eq bytes (123 ∷ [])
brace_is [] = refl
brace_is (b ∷ []) = refl
brace_is (b ∷ c ∷ bs) = refl

pub rest_escaped : (bytes : List ℕ) (i : ℕ) → i < length bytes
    → is_template_rest true (drop i bytes) ≡ ((get_or bytes i 0 == 110) && is_template_rest false (drop (i + 1) bytes))
rest_escaped bytes i h = rw (add-one, drop-cons bytes i 0) refl

pub rest_plain : (bytes : List ℕ) (i : ℕ) → i < length bytes →
    is_template_rest false (drop i bytes) ≡
    (if get_or bytes i 0 == 96 then is_end (drop (i + 1) bytes)
    else (if get_or bytes i 0 == 36 then is_brace (drop (i + 1) bytes)
    else (if get_or bytes i 0 == 92 then is_template_rest true (drop (i + 1) bytes)
    else ((nat_lt 31 (get_or bytes i 0) && nat_lt (get_or bytes i 0) 127)
    && is_template_rest false (drop (i + 1) bytes)))))
rest_plain bytes i h = rw (add-one, drop-cons bytes i 0) refl

pub rest_ends : (bytes : List ℕ) (i : ℕ) (escaped : Bool) → length bytes ≤ i
    → is_template_rest escaped (drop i bytes) ≡ false
rest_ends bytes i true h = rw (drop_all i bytes h) refl
rest_ends bytes i false h = rw (drop_all i bytes h) refl

pub ruleset templates = (end_is, brace_is, rest_escaped, rest_plain, rest_ends)

pub ruleset numbers = (no_number, number_goes, number_stops, drop_all)
