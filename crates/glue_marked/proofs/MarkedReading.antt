-- The loop over words.
use Rattle.std.proofs.Common.{◌≡◌, ◌∙◌, ◌∷◌, ◌++◌, ◌<◌, ◌≤◌, ◌+◌, ◌-◌, [], List, ℕ, Bool, length, drop, take, refl}
use Rattle.std.proofs.Common.{sym, ap, arith, append_assoc, length-drop, drop-drop, add-zero, zero, suc, reverse}
use Rattle.std.specs.Prelude.{Result, Ok, Err, Option, Some, None, max}
use Rattle.glue_words.specs.declared.word.Word.{Word}
use Rattle.glue_marked.specs.Marked.{words_from, preceded, kind_of, len_of, word_of, open_after, is_dot, read_marked}
use Rattle.glue_marked.specs.Reads.{words_in}
use Rattle.glue_marked.specs.declared.mark_kind.Kind.{Kind}
use Rattle.std.proofs.lemmas.List.{reverse-append, drop_all}

-- words before others
abbrev pub followed : List Word → Result (List Word) ℕ → Result (List Word) ℕ
followed front (Ok words) = Ok (front ++ words)
followed front (Err place) = Err place

pub followed_nil : (rest : Result (List Word) ℕ) → followed [] rest ≡ rest
followed_nil (Ok words) = refl
followed_nil (Err place) = refl

pub followed_more : (front : List Word) (word : Word) (rest : Result (List Word) ℕ)
    → followed (front ++ word ∷ []) rest ≡ followed front (preceded word rest)
unfolding preceded
followed_more front word (Ok words) = ap Ok (append_assoc front (word ∷ []) words)
followed_more front word (Err place) = refl

-- bytes that belong to the word before are passed
pub passed : (n place : ℕ) (opened : List Bool) (dot : Bool) (bs : List ℕ)
    → words_from place n opened dot bs ≡ words_from (place + n) 0 opened dot (drop n bs)
unfolding words_from
passed zero place opened dot bs = rw add-zero refl
passed (suc n) place opened dot [] = refl
passed (suc n) place opened dot (b ∷ bs) =
    let e : place + 1 + n ≡ place + suc n = omega arith in
    passed n (place + 1) opened dot bs ∙ ap (λ (p : ℕ). words_from p 0 opened dot (drop n bs)) e

at_least_one : (n b : ℕ) (bs : List ℕ) → take (max n 1) (b ∷ bs) ≡ b ∷ take (n - 1) bs
at_least_one n b bs = let e : max n 1 ≡ suc (n - 1) = omega arith in ap (λ (k : ℕ). take k (b ∷ bs)) e

past_one : (n b : ℕ) (bs : List ℕ) → drop (n - 1) bs ≡ drop (max n 1) (b ∷ bs)
past_one n b bs = let e : suc (n - 1) ≡ max n 1 = omega arith in ap (λ (k : ℕ). drop k (b ∷ bs)) e

-- a word is read
pub word_read : (place : ℕ) (opened : List Bool) (dot : Bool) (rest : List ℕ) (word : Word) → 0 < length rest →
    (let n = max (len_of (kind_of opened rest) rest) 1 in
    word_of (kind_of opened rest) dot (take n rest) ≡ Some word →
    words_from place 0 opened dot rest
    ≡ preceded word (words_from (place + n) 0 (open_after opened word) (is_dot word) (drop n rest)))
unfolding words_from
word_read place opened dot [] word some e = absurd (omega arith)
word_read place opened dot (b ∷ bs) word some e =
    let n = len_of (kind_of opened (b ∷ bs)) (b ∷ bs) in
    let f : Option Word → Result (List Word) ℕ = λ found. elim found [
      | None ↦ Err place
      | Some w ↦ preceded w (words_from (place + 1) (n - 1) (open_after opened w) (is_dot w) bs)
    ] in
    let there : place + 1 + (n - 1) ≡ place + max n 1 = omega arith in
    ap f (ap (word_of (kind_of opened (b ∷ bs)) dot) (sym (at_least_one n b bs)) ∙ e)
    ∙ ap (preceded word) (passed (n - 1) (place + 1) (open_after opened word) (is_dot word) bs
    ∙ ap (λ (p : ℕ). words_from p 0 (open_after opened word) (is_dot word) (drop (n - 1) bs)) there
    ∙ ap (words_from (place + max n 1) 0 (open_after opened word) (is_dot word)) (past_one n b bs))

-- no word is read
pub none_read : (place : ℕ) (opened : List Bool) (dot : Bool) (rest : List ℕ) → 0 < length rest →
    word_of (kind_of opened rest) dot (take (max (len_of (kind_of opened rest) rest) 1) rest) ≡ None
    → words_from place 0 opened dot rest ≡ Err place
unfolding words_from
none_read place opened dot [] some e = absurd (omega arith)
none_read place opened dot (b ∷ bs) some e =
    let n = len_of (kind_of opened (b ∷ bs)) (b ∷ bs) in
    let f : Option Word → Result (List Word) ℕ = λ found. elim found [
      | None ↦ Err place
      | Some w ↦ preceded w (words_from (place + 1) (n - 1) (open_after opened w) (is_dot w) bs)
    ] in
    ap f (ap (word_of (kind_of opened (b ∷ bs)) dot) (sym (at_least_one n b bs)) ∙ e)

-- nothing is left
pub all_read : (place : ℕ) (opened : List Bool) (dot : Bool) (bytes : List ℕ) (i : ℕ) → length bytes ≤ i
    → words_from place 0 opened dot (drop i bytes) ≡ Ok []
unfolding words_from
all_read place opened dot bytes i h = rw (drop_all i bytes h) refl

-- the same, as the code finds the word
pub step_on : (word : Word) (place len n : ℕ) (opened slice : List Bool) (dot : Bool) (bytes rest piece : List ℕ)
    (kind : Kind) →
    place < length bytes → rest ≡ drop place bytes → slice ≡ opened → kind ≡ kind_of (reverse slice) rest
    → n ≡ len_of kind rest → len ≡ max n 1 → piece ≡ take len rest →
    Some word ≡ word_of kind dot piece →
    words_from place 0 (reverse opened) dot (drop place bytes)
    ≡ preceded word (words_from (place + len) 0 (open_after (reverse opened) word) (is_dot word)
    (drop (place + len) bytes))
step_on word place len n opened slice dot bytes rest piece kind some er es ek en el ep ew =
    let here : 0 < length rest = omega (arith, ap length er, length-drop place bytes) in
    let e : word_of (kind_of (reverse opened) rest) dot
    (take (max (len_of (kind_of (reverse opened) rest) rest) 1) rest) ≡ Some word = cc in
    let read = word_read place (reverse opened) dot rest word here e in
    let m : max (len_of (kind_of (reverse opened) rest) rest) 1 ≡ len = cc in
    let d : drop len rest ≡ drop (place + len) bytes = ap (drop len) er ∙ drop-drop len place bytes in
    ap (words_from place 0 (reverse opened) dot) (sym er) ∙ read
    ∙ ap (λ (k : ℕ). preceded word
    (words_from (place + k) 0 (open_after (reverse opened) word) (is_dot word) (drop k rest))) m
    ∙ ap (λ (r : List ℕ). preceded word
    (words_from (place + len) 0 (open_after (reverse opened) word) (is_dot word) r)) d

pub step_bad : (place len n : ℕ) (opened slice : List Bool) (dot : Bool) (bytes rest piece : List ℕ) (kind : Kind) →
    place < length bytes → rest ≡ drop place bytes → slice ≡ opened → kind ≡ kind_of (reverse slice) rest
    → n ≡ len_of kind rest → len ≡ max n 1 → piece ≡ take len rest →
    None ≡ word_of kind dot piece → words_from place 0 (reverse opened) dot (drop place bytes) ≡ Err place
step_bad place len n opened slice dot bytes rest piece kind some er es ek en el ep ew =
    let here : 0 < length rest = omega (arith, ap length er, length-drop place bytes) in
    let e : word_of (kind_of (reverse opened) rest) dot
    (take (max (len_of (kind_of (reverse opened) rest) rest) 1) rest) ≡ None = cc in
    ap (words_from place 0 (reverse opened) dot) (sym er) ∙ none_read place (reverse opened) dot rest here e

pub popped : (last : Bool) (old new : List Bool) → old ≡ new ++ last ∷ [] → drop 1 (reverse old) ≡ reverse new
popped last old new e = rw e (rw reverse-append refl)

pub pushed : (last : Bool) (old : List Bool) → reverse (old ++ last ∷ []) ≡ last ∷ reverse old
pushed last old = rw reverse-append refl

pub ruleset opening = (popped, pushed)

-- the words that were read are those of the text
pub words_found : (text : List ℕ) (words : List Word) → read_marked text ≡ Ok words → words ≡ words_in text
unfolding words_in
words_found text words e = rw (e, words_in) refl
