use Rattle.std.proofs.Common.{◌≡◌, ◌∙◌, ◌++◌, ◌∷◌, [], ℕ, List, cond, sym, ap, append_assoc}
use Rattle.std.specs.Prelude.{Result, Ok, Err, IfOk, is_ok}
use Rattle.std.specs.String.{string_bytes}
use lib.Utf8.{encode}
use Rattle.glue_words.specs.Literal.{literal}
use Rattle.glue_words.specs.Words.{access}
use Rattle.glue_words.proofs.printing.push_access.Goals as goal

ends_in : {T E : Type 0} (r : Result T E) (new full old text : List ℕ) → new ≡ cond (is_ok r) full old → full ≡ text → IfOk r (λ _. new ≡ text)
ends_in (Ok x) new full old text e h = e ∙ h
ends_in (Err x) new full old text e h = tt

pub returns : goal.returns
unfolding access encode
returns c =
    let out = string_bytes c.args.out.now in
    let inner = literal c.args.name.now in
    let written : string_bytes c.push_literal.new.out ≡ (out ++ 91 ∷ []) ++ inner = c.in_ok-push_literal.ensures ∙ ap (λ (bs : List ℕ). bs ++ inner) c.in_ok-push-2.ensures.bytes in
    rw (sym c.is_valid_ident.ensures.ident ∙ c.if-is_valid_ident.false)
    (ends_in c.push-3.result _ _ _ _ c.push-3.ensures.bytes (ap (λ (bs : List ℕ). bs ++ 93 ∷ []) written ∙ append_assoc (out ++ 91 ∷ []) inner (93 ∷ []) ∙ append_assoc out (91 ∷ []) (inner ++ 93 ∷ [])))
