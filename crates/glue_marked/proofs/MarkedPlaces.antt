-- The place of a fault is one of the text.
use Rattle.std.proofs.Common.{◌≡◌, ◌∷◌, ◌<◌, ◌+◌, ◌-◌, [], List, ℕ, Bool, length, take, arith, zero, suc}
use Rattle.std.specs.Prelude.{Option, Some, None, Result, Ok, Err}
use Rattle.glue_words.specs.declared.word.Word.{Word}
use Rattle.glue_marked.specs.Marked.{kind_of, len_of, word_of, open_after, is_dot, preceded, words_from, read_marked}

placed : (place left : ℕ) (opened : List Bool) (dot : Bool) (bytes : List ℕ) (fault : ℕ)
    → words_from place left opened dot bytes ≡ Err fault → fault < place + length bytes
unfolding words_from preceded
placed place left opened dot [] fault e = cc
placed place (suc left) opened dot (b ∷ bs) fault e =
    let h = placed (place + 1) left opened dot bs fault e in omega arith
placed place zero opened dot (b ∷ bs) fault e =
    let kind = kind_of opened (b ∷ bs) in
    let left = len_of kind (b ∷ bs) - 1 in
    by_word left (word_of kind dot (b ∷ take left bs)) e
    (λ word. placed (place + 1) left (open_after opened word) (is_dot word) bs fault)
  where
    by_rest : (word : Word) (rest : Result (List Word) ℕ) → preceded word rest ≡ Err fault
        → (rest ≡ Err fault → fault < place + 1 + length bs) → fault < place + length (b ∷ bs)
    by_rest word (Ok others) e more = cc
    by_rest word (Err p) e more = let h = more e in omega arith

    by_word : (left : ℕ) (found : Option Word) →
        (elim found as (λ _. Result (List Word) ℕ) [
          | None ↦ Err place
          | Some word ↦ preceded word (words_from (place + 1) left (open_after opened word) (is_dot word) bs)
        ])
        ≡ Err fault →
        ((word : Word) → words_from (place + 1) left (open_after opened word) (is_dot word) bs ≡ Err fault
        → fault < place + 1 + length bs) → fault < place + length (b ∷ bs)
    by_word left None e more = let p : place ≡ fault = cc in omega arith
    by_word left (Some word) e more = by_rest word _ e (more word)

pub fault_placed : (text : List ℕ) (fault : ℕ) → read_marked text ≡ Err fault → fault < length text
unfolding read_marked
fault_placed text fault e = let h = placed 0 0 [] _ text fault e in omega arith
