-- The loops that draw names from a scope, and bind names in it.
use Rattle.std.proofs.Common.{◌≡◌, ℕ, ◌+◌, ◌<◌, List, [], ◌∷◌, ◌++◌, length, take, get_or, sym, ap, ◌∙◌, subst}
use Rattle.std.specs.FinSet as set
use Rattle.glue_words.specs.Ident.{to_ident}
use Rattle.values.specs.TextSet.{TextSet, with_texts}
use Rattle.glue_scope.specs.Scope.{IsFirstFree, AreDrawn}
use Rattle.glue_scope.proofs.Drawn.{drawn-append, with_texts-append}
use Rattle.glue_operands.proofs.Lists.{take_next}

pub drawn_next : (b now : TextSet) (wanted : List (List ℕ)) (i : ℕ) (w text : List ℕ) (names names' : List (List ℕ))
    (name name' : List ℕ) → i < length wanted → w ≡ get_or wanted i w → text ≡ w → AreDrawn b (take i wanted) names
    → now ≡ with_texts b names → IsFirstFree now (to_ident text) name → name' ≡ name → names' ≡ names ++ name' ∷ []
    → AreDrawn b (take (i + 1) wanted) names'
drawn_next b now wanted i w text names names' name name' lt is same d e f n p =
    let one : IsFirstFree (with_texts b names) (to_ident w) name = subst
    (λ (s : TextSet). IsFirstFree s (to_ident w) name) e
    (subst (λ (t : List ℕ). IsFirstFree now (to_ident t) name) same f) in
    let all : AreDrawn b (take i wanted ++ w ∷ []) (names ++ name ∷ []) = drawn-append b (take i wanted) (w ∷ []) names
    (name ∷ []) d (one, tt) in
    subst (λ (ws : List (List ℕ)). AreDrawn b ws names') (sym (take_next wanted i w lt is))
    (subst (λ (ns : List (List ℕ)). AreDrawn b (take i wanted ++ w ∷ []) ns)
    (sym (p ∙ ap (λ m. names ++ m ∷ []) n)) all)

pub bound_next : (b now next : TextSet) (names names' : List (List ℕ)) (name name' : List ℕ) → now ≡ with_texts b names
    → next ≡ set.insert now name → name' ≡ name → names' ≡ names ++ name' ∷ [] → next ≡ with_texts b names'
bound_next b now next names names' name name' e f n p =
    f ∙ ap (λ (s : TextSet). set.insert s name) e ∙ sym (with_texts-append b names (name ∷ []))
    ∙ ap (with_texts b) (sym (p ∙ ap (λ m. names ++ m ∷ []) n))

-- one name more is bound
pub reserved_next : (b now next : TextSet) (names : List (List ℕ)) (i : ℕ) (x text : List ℕ) → i < length names → x ≡ get_or names i x → text ≡ x
    → now ≡ with_texts b (take i names) → next ≡ set.insert now text → next ≡ with_texts b (take (i + 1) names)
reserved_next b now next names i x text lt is same e f =
    f ∙ ap (λ (s : TextSet). set.insert s text) e ∙ ap (λ (t : List ℕ). set.insert (with_texts b (take i names)) t) same
    ∙ sym (with_texts-append b (take i names) (x ∷ []))
    ∙ ap (with_texts b) (sym (take_next names i x lt is))
