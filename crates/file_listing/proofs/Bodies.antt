-- The bytes of a file's part.
use Rattle.std.proofs.Common.{◌≡◌, ◌≢◌, ℕ, ◌+◌, ◌*◌, ◌<◌, ◌≤◌, ◌^◌, List, [], ◌∷◌, ◌++◌, length, get_or, take, drop, Bool, true, false, Result, Option, Some, None, IfOk, MatchOption, Ok, Err, ◌⊎◌, inl, inr, refl, sym, ap, ◌∙◌, arith, length-append}
use Rattle.std.proofs.lemmas.List.{get_or_at}
use Rattle.hex.specs.Hex.{IsBytes, encode_lower, decode_of, lower_digits}
use Rattle.hex.specs.declared.error.FromHexError.{FromHexError}
use Rattle.hex.specs.declared.error.FromHexError.TheVariants.{OutOfMemory}
use Rattle.hex.proofs.HexLemmas.{length-encode_with, decode_of-encode_lower, decode_of-same}
use Rattle.glue_ends.specs.Listing.{shown_bytes}
use Rattle.file_listing.specs.Parts.{size_of, IsCutAt, IsNoCut, IsBodyOf, IsNoBody}

pub shown_size : (is_text : Bool) (bytes : List ℕ) → length (shown_bytes is_text bytes) ≡ size_of is_text (length bytes)
shown_size true bytes = refl
shown_size false bytes = length-encode_with lower_digits bytes

pub no_cut_short : (text : List ℕ) (size : ℕ) → length text ≤ size → IsNoCut text size
no_cut_short text size short front back cut = omega (arith, ap length cut.whole, length-append front (10 ∷ back), cut.long)

pub no_cut_other : (text : List ℕ) (size : ℕ) → get_or text size 0 ≢ 10 → IsNoCut text size
no_cut_other text size other front back cut = other (ap (λ l. get_or l size 0) cut.whole ∙ get_or_at front 10 back 0 size cut.long)

-- the body is what is cut
pub cut_of_body : (text : List ℕ) (is_text : Bool) (count : ℕ) (bytes rest : List ℕ) → IsBodyOf text is_text count bytes rest → IsCutAt text (size_of is_text count) (shown_bytes is_text bytes) rest
cut_of_body text is_text count bytes rest body = record { whole = body.whole; long = shown_size is_text bytes ∙ ap (size_of is_text) body.long }

take_front : (front back : List ℕ) (size : ℕ) → length front ≡ size → take size (front ++ back) ≡ front
take_front [] back size long = rw (← long) refl
take_front (x ∷ front) back size long = rw (← long) (ap (λ l. x ∷ l) (take_front front back (length front) refl))

drop_front : (front back : List ℕ) (size : ℕ) → length front ≡ size → drop size (front ++ back) ≡ back
drop_front [] back size long = rw (← long) refl
drop_front (x ∷ front) back size long = rw (← long) (drop_front front back (length front) refl)

abbrev tail_of : List ℕ → List ℕ
tail_of [] = []
tail_of (x ∷ xs) = xs

-- a text is cut there in one way
pub same_cut : (text : List ℕ) (size : ℕ) (a b c d : List ℕ) → IsCutAt text size a b → IsCutAt text size c d → (a ≡ c) × (b ≡ d)
same_cut text size a b c d one two = (
  sym (take_front a (10 ∷ b) size one.long) ∙ ap (take size) (sym one.whole ∙ two.whole) ∙ take_front c (10 ∷ d) size two.long,
  ap tail_of (sym (drop_front a (10 ∷ b) size one.long) ∙ ap (drop size) (sym one.whole ∙ two.whole) ∙ drop_front c (10 ∷ d) size two.long),
)

pub no_body_without_cut : (text : List ℕ) (is_text : Bool) (count : ℕ) → IsNoCut text (size_of is_text count) → IsNoBody text is_text count
no_body_without_cut text is_text count none bytes rest body = none (shown_bytes is_text bytes) rest (cut_of_body text is_text count bytes rest body)

pub no_body_by_bytes : (text : List ℕ) (is_text : Bool) (count : ℕ) (shown rest : List ℕ) → IsCutAt text (size_of is_text count) shown rest
    → ((bytes : List ℕ) → IsBytes bytes → shown ≢ shown_bytes is_text bytes) → IsNoBody text is_text count
no_body_by_bytes text is_text count shown rest cut none bytes more body =
    none bytes body.are (same_cut text (size_of is_text count) shown rest _ more cut (cut_of_body text is_text count bytes more body)).0

same_size : (is_text : Bool) (m n : ℕ) → size_of is_text m ≡ size_of is_text n → m ≡ n
same_size true m n h = h
same_size false m n h = omega (arith, h)

pub body_by_cut : (text : List ℕ) (is_text : Bool) (count : ℕ) (shown bytes rest : List ℕ) → IsCutAt text (size_of is_text count) shown rest → (shown ≡ shown_bytes is_text bytes) × IsBytes bytes
    → IsBodyOf text is_text count bytes rest
body_by_cut text is_text count shown bytes rest cut is = record {
  whole = cut.whole ∙ ap (λ l. l ++ 10 ∷ rest) is.0;
  long = same_size is_text (length bytes) count (sym (shown_size is_text bytes) ∙ ap length (sym is.0) ∙ cut.long);
  are = is.1;
}

-- what stands behind two bodies of one text is one
pub same_rest : (text : List ℕ) (is_text : Bool) (count : ℕ) (bytes rest more after : List ℕ) → IsBodyOf text is_text count bytes rest → IsBodyOf text is_text count more after → rest ≡ after
same_rest text is_text count bytes rest more after a b =
    (same_cut text (size_of is_text count) _ rest _ after (cut_of_body text is_text count bytes rest a) (cut_of_body text is_text count more after b)).1

-- digits that are written otherwise than the bytes that they are read as
pub no_bytes_other : (digits bytes : List ℕ) → decode_of digits ≡ Ok bytes → encode_lower bytes ≢ digits → (b : List ℕ) → IsBytes b → digits ≢ encode_lower b
no_bytes_other digits bytes read other b are is =
    other (ap encode_lower (decode_of-same digits bytes b read (ap decode_of is ∙ decode_of-encode_lower b are)) ∙ sym is)

-- digits that aren't read
pub no_bytes_by_fault : (digits : List ℕ) (e : FromHexError) → (e ≡ OutOfMemory) ⊎ (decode_of digits ≡ Err e) → e ≢ OutOfMemory → (b : List ℕ) → IsBytes b → digits ≢ encode_lower b
no_bytes_by_fault digits e (inl memory) other b are is = other memory
no_bytes_by_fault digits e (inr fault) other b are is =
    let read : decode_of digits ≡ Ok b = ap decode_of is ∙ decode_of-encode_lower b are in
    cc

pub not_decoded : {E : Type 0} (digits : List ℕ) (e : FromHexError) (r : Result (Option (List ℕ)) E) → (e ≡ OutOfMemory) ⊎ (decode_of digits ≡ Err e) → IfOk r (λ bytes. (bytes ≡ None) × (e ≢ OutOfMemory))
    → IfOk r (λ bytes. MatchOption bytes ((b : List ℕ) → IsBytes b → digits ≢ encode_lower b) (λ b. (digits ≡ encode_lower b) × IsBytes b))
not_decoded digits e (Ok None) fault given = no_bytes_by_fault digits e fault given.1
not_decoded digits e (Ok (Some b)) fault given =
    let impossible : Some b ≡ None = given.0 in
    let never : ⊥ = cc in
    absurd never
not_decoded digits e (Err x) fault given = tt

-- what is shown in one form shows one list of bytes
pub same_bytes : (is_text : Bool) (a b : List ℕ) → IsBytes a → IsBytes b → shown_bytes is_text a ≡ shown_bytes is_text b → a ≡ b
same_bytes true a b m n h = h
same_bytes false a b m n h = decode_of-same (encode_lower a) a b (decode_of-encode_lower a m) (ap decode_of h ∙ decode_of-encode_lower b n)

pub same_body : (text : List ℕ) (is_text : Bool) (count : ℕ) (bytes rest more after : List ℕ) → IsBodyOf text is_text count bytes rest → IsBodyOf text is_text count more after → bytes ≡ more
same_body text is_text count bytes rest more after a b =
    same_bytes is_text bytes more a.are b.are
    (same_cut text (size_of is_text count) _ rest _ after (cut_of_body text is_text count bytes rest a) (cut_of_body text is_text count more after b)).0
