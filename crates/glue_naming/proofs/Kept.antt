-- A name that is an identifier, and free, is drawn as it is.
use Rattle.std.proofs.Common.{◌≡◌, ℕ, suc, List, [], ◌∷◌, ◌++◌, length, map, arith, true, false, cond, true≢false, refl, sym, ap, ◌∙◌, inl, inr}
use Rattle.std.specs.Prelude.{encode_utf8_all}
use Rattle.std.specs.List.{list_all}
use Rattle.std.specs.Str.{IsUtf8, chars}
use Rattle.std.specs.FinSet as set
use Rattle.std.proofs.lemmas.Bool.{and_parts}
use Rattle.std.proofs.lemmas.Str.{encodes-chars}
use Rattle.values.specs.TextSet.{TextSet, with_texts}
use Rattle.glue_words.specs.Ident.{is_ident, is_rest, to_ident, kept_char, cleaned_name}
use Rattle.glue_words.specs.Limits.{are_ident_chars, is_prop}
use Rattle.glue_words.proofs.Idents.{ident_prop}
use Rattle.glue_scope.specs.Scope.{IsFirstFree}
use Rattle.glue_naming.specs.Drawing.{AreKept}

kept_chars : (cs : List ℕ) → list_all is_rest cs ≡ true → map kept_char cs ≡ cs
kept_chars [] h = refl
kept_chars (c ∷ cs) h =
    let parts = and_parts (is_rest c) (list_all is_rest cs) h in
    ap (λ b. cond b c 95 ∷ map kept_char cs) parts.0 ∙ ap (λ (ds : List ℕ). c ∷ ds) (kept_chars cs parts.1)

some_chars : (cs : List ℕ) → are_ident_chars cs ≡ true → list_all is_rest cs ≡ true
some_chars [] h = absurd (true≢false (sym h))
some_chars (c ∷ cs) h = h

cleaned_same : (name : List ℕ) → IsUtf8 name → is_prop name ≡ true → cleaned_name name ≡ name
unfolding cleaned_name is_prop
cleaned_same name text h = ap encode_utf8_all (kept_chars (chars name) (some_chars (chars name) h)) ∙ encodes-chars name text

-- an identifier is made none other
pub ident_kept : (name : List ℕ) → IsUtf8 name → is_ident name ≡ true → to_ident name ≡ name
unfolding to_ident
ident_kept name text h =
    ap (λ (n : List ℕ). cond (is_ident n) n (95 ∷ n)) (cleaned_same name text (ident_prop name h)) ∙ ap (λ b. cond b name (95 ∷ name)) h

pub name_kept : (bound : TextSet) (name answer : List ℕ) → IsUtf8 name → IsFirstFree bound (to_ident name) answer → is_ident name ≡ true → set.contains bound name ≡ false → answer ≡ name
name_kept bound name answer text (inl h) ident free = h.1 ∙ ident_kept name text ident
name_kept bound name answer text (inr h) ident free =
    absurd (true≢false (sym h.0 ∙ ap (set.contains bound) (ident_kept name text ident) ∙ free))

-- one name more
pub kept-append : (bound : TextSet) (ws names : List (List ℕ)) (w name : List ℕ) → length names ≡ length ws → AreKept bound ws names
    → (is_ident w ≡ true → set.contains (with_texts bound names) w ≡ false → name ≡ w) → AreKept bound (ws ++ w ∷ []) (names ++ name ∷ [])
kept-append bound [] [] w name e h k = (k, tt)
kept-append bound [] (n ∷ names) w name e h k = cc
kept-append bound (v ∷ ws) [] w name e h k = cc
kept-append bound (v ∷ ws) (n ∷ names) w name e h k = (h.0, kept-append (set.insert bound n) ws names w name (suc_same (length names) (length ws) e) h.1 k)
  where
    suc_same : (a b : ℕ) → suc a ≡ suc b → a ≡ b
    suc_same a b e = omega (arith, e)
