-- The loop over the lines of a text.
use Rattle.std.proofs.Common.{◌≡◌, ℕ, List, [], ◌∷◌, ◌++◌, map, sym, ap, ◌∙◌, append_assoc, append-nil, None, Some, refl, Bor}
use Rattle.std.proofs.lemmas.Iterator.{YieldsList}
use Rattle.std.proofs.lemmas.Iterator.Splits.{YieldsList-from_lines}
use Rattle.std.specs.declared.str.Lines.{Lines}
use Rattle.std.specs.Str.{trim}
use Rattle.std.specs.Str.Lines.{lines}
use Rattle.std.specs.Str.Iter.{lines_rest, lines_steps}
use Rattle.glue_layout.specs.Layout.{laid_line, laid_lines, level_after}

-- what is laid out, and the lines that are still to come, make up the whole
pub record LaysOut (s : Lines) (level : ℕ) (laid whole : List ℕ) : Type 0 where
  pub rest : List (List ℕ)
  pub yields : YieldsList lines_steps (λ x. x.now) s rest
  pub adds : laid ++ laid_lines level (map trim rest) ≡ whole

pub laying_start : (s : Lines) (text : List ℕ) → lines_rest s ≡ text → LaysOut s 0 [] (laid_lines 0 (map trim (lines text)))
laying_start s text e = record { rest = lines text; yields = YieldsList-from_lines text e; adds = refl }

laying_step : (s t : Lines) (x : Bor (List ℕ)) (level : ℕ) (laid whole : List ℕ) (rest : List (List ℕ)) → lines_steps s (Some x) t
    → YieldsList lines_steps (λ x. x.now) s rest → laid ++ laid_lines level (map trim rest) ≡ whole
    → LaysOut t (level_after level (trim x.now)) (laid ++ laid_line level (trim x.now)) whole
laying_step s t x level laid whole [] step y adds = absurd (y.runs x t step)
laying_step s t x level laid whole (l ∷ more) step y adds =
    let next = y.runs.1 x t step in
    record {
      rest = more;
      yields = record { runs = next.1 };
      adds = ap (λ v. (laid ++ laid_line level (trim v)) ++ laid_lines (level_after level (trim v)) (map trim more)) next.0
          ∙ append_assoc laid (laid_line level (trim l)) (laid_lines (level_after level (trim l)) (map trim more)) ∙ adds;
    }

-- a line is laid out
pub laying_more : (s t : Lines) (x : Bor (List ℕ)) (level : ℕ) (laid whole : List ℕ) → lines_steps s (Some x) t → LaysOut s level laid whole
    → LaysOut t (level_after level (trim x.now)) (laid ++ laid_line level (trim x.now)) whole
laying_more s t x level laid whole step h = laying_step s t x level laid whole h.rest step h.yields h.adds

laying_done : (s t : Lines) (level : ℕ) (laid whole : List ℕ) (rest : List (List ℕ)) → lines_steps s None t
    → YieldsList lines_steps (λ x. x.now) s rest → laid ++ laid_lines level (map trim rest) ≡ whole → laid ≡ whole
laying_done s t level laid whole [] step y adds = sym (append-nil laid) ∙ adds
laying_done s t level laid whole (l ∷ more) step y adds = absurd (y.runs.0 t step)

-- all lines are laid out
pub laying_end : (s t : Lines) (level : ℕ) (laid whole : List ℕ) → lines_steps s None t → LaysOut s level laid whole → laid ≡ whole
laying_end s t level laid whole step h = laying_done s t level laid whole h.rest step h.yields h.adds
