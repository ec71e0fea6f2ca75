-- One part after the other.
use Rattle.std.proofs.Common.{◌≡◌, ℕ, suc, List, ◌++◌, Bool, true, false, Option, Some, None, option_map, refl, sym, ap, ◌∙◌}
use Rattle.std.specs.Prelude.{codes, if◌then◌else◌}
use Rattle.std.specs.Str.{bytes_eq}
use Rattle.std.proofs.lemmas.List.{append_assoc}
use Rattle.demangle_core.specs.Shown.{shown_part}
use Rattle.demangle_core.specs.Symbol.{first_part, path_behind, path_of}

-- a path behind bytes
abbrev pub after : List ℕ → Option (List ℕ) → Option (List ℕ)
after out path = option_map (λ (more : List ℕ). out ++ more) path

joined : (out shown : List ℕ) (path : Option (List ℕ))
    → after out (option_map (λ (more : List ℕ). shown ++ (codes "::" ++ more)) path) ≡ after ((out ++ shown) ++ codes "::") path
joined out shown None = refl
joined out shown (Some more) = ap (λ (text : List ℕ). Some text) (sym (append_assoc out shown (codes "::" ++ more)) ∙ sym (append_assoc (out ++ shown) (codes "::") more))

module _ (out : List ℕ) (most : ℕ) (rest : List ℕ) where
  abbrev told : Option (List ℕ × List ℕ) → Option (List ℕ)
  told found = after out (path_behind (path_of most) found)

  -- no part begins
  pub no_part : first_part rest ≡ None → after out (path_of (suc most) rest) ≡ None
  no_part found = ap told found

  module _ (part behind : List ℕ) (found : first_part rest ≡ Some (part, behind)) where
    abbrev told_by : Bool → Option (List ℕ)
    told_by ends = after out (if ends then Some (shown_part part) else option_map (λ (path : List ℕ). shown_part part ++ (codes "::" ++ path)) (path_of most behind))

    -- the last part
    pub last_part : bytes_eq behind (codes "E") ≡ true → after out (path_of (suc most) rest) ≡ Some (out ++ shown_part part)
    last_part h = ap told found ∙ ap told_by h

    -- a part that isn't the last
    pub next_part : bytes_eq behind (codes "E") ≡ false → after out (path_of (suc most) rest) ≡ after ((out ++ shown_part part) ++ codes "::") (path_of most behind)
    next_part h = ap told found ∙ ap told_by h ∙ joined out (shown_part part) (path_of most behind)
