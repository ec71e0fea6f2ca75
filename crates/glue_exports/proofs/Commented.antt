-- The loop over the lines of a comment.
use Rattle.std.proofs.Common.{◌≡◌, ℕ, List, [], ◌∷◌, ◌++◌, map, sym, ap, ◌∙◌, append_assoc, append-nil, None, Some, refl, Bor}
use Rattle.std.proofs.lemmas.Iterator.{YieldsList}
use Rattle.std.proofs.lemmas.Iterator.Splits.{YieldsList-from_lines}
use Rattle.std.specs.declared.str.Lines.{Lines}
use Rattle.std.specs.Str.Iter.{lines_rest, lines_steps}
use Rattle.glue_exports.specs.Notes.{unspaced, comment_lines}

-- the lines so far, and those that are still to come, are all
pub record Lists (s : Lines) (done whole : List (List ℕ)) : Type 0 where
  pub rest : List (List ℕ)
  pub yields : YieldsList lines_steps (λ x. x.now) s rest
  pub adds : done ++ map unspaced rest ≡ whole

pub listing_start : (s : Lines) (comment : List ℕ) → lines_rest s ≡ comment → Lists s [] (comment_lines comment)
listing_start s comment e = record { rest = _; yields = YieldsList-from_lines comment e; adds = refl }

step : (s t : Lines) (x : Bor (List ℕ)) (done whole rest : List (List ℕ)) → lines_steps s (Some x) t
    → YieldsList lines_steps (λ x. x.now) s rest → done ++ map unspaced rest ≡ whole
    → Lists t (done ++ unspaced x.now ∷ []) whole
step s t x done whole [] steps y adds = absurd (y.runs x t steps)
step s t x done whole (l ∷ more) steps y adds =
    let next = y.runs.1 x t steps in
    record {
      rest = more;
      yields = record { runs = next.1 };
      adds = append_assoc done (unspaced x.now ∷ []) (map unspaced more)
          ∙ ap (λ (v : List ℕ). done ++ unspaced v ∷ map unspaced more) next.0 ∙ adds;
    }

-- one line more
pub listing_more : (s t : Lines) (x : Bor (List ℕ)) (done whole : List (List ℕ)) → lines_steps s (Some x) t → Lists s done whole
    → Lists t (done ++ unspaced x.now ∷ []) whole
listing_more s t x done whole steps h = step s t x done whole h.rest steps h.yields h.adds

finish : (s t : Lines) (done whole rest : List (List ℕ)) → lines_steps s None t
    → YieldsList lines_steps (λ x. x.now) s rest → done ++ map unspaced rest ≡ whole → done ≡ whole
finish s t done whole [] steps y adds = sym (append-nil done) ∙ adds
finish s t done whole (l ∷ more) steps y adds = absurd (y.runs.0 t steps)

-- all lines are listed
pub listing_end : (s t : Lines) (done whole : List (List ℕ)) → lines_steps s None t → Lists s done whole → done ≡ whole
listing_end s t done whole steps h = finish s t done whole h.rest steps h.yields h.adds
