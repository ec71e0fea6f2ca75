use Rattle.std.proofs.Common.{◌≡◌, ◌≢◌, ℕ, List, [], ◌∷◌, ◌==◌, cond, ⊎_elim, refl, sym, ap, lit<, eqb-true}
use Rattle.std.proofs.lemmas.Bool.{cases_Bool}
use Rattle.std.proofs.lemmas.Str.Pattern.{strip_prefix_char}
use Rattle.glue_exports.specs.Notes.{unspaced}
use Rattle.glue_exports.proofs.notes.unspaced.Goals as goal

kept : (line : List ℕ) → ((rest : List ℕ) → line ≢ 32 ∷ rest) → line ≡ unspaced line
kept [] h = refl
kept (b ∷ bs) h = ⊎_elim
    (λ e. absurd (h bs (ap (λ c. c ∷ bs) (eqb-true b 32 e))))
    (λ e. sym (ap (λ t. cond t bs (b ∷ bs)) e))
    (cases_Bool (b == 32))

pub returns-in-None : goal.returns-in-None
returns-in-None c =
    let cases = strip_prefix_char 32 c.args.line.now c.strip_prefix.result c.strip_prefix.ensures.cases (lit< tt) in
    record { line = kept c.args.line.now (rw c.in-None.is at cases) }
