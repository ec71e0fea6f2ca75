-- A loop that writes a list piece by piece.
use Rattle.std.proofs.Common.{◌≡◌, ℕ, Option, None, Some, List, [], ◌++◌, take, drop, refl, sym, ap, ◌∙◌, append_assoc, append-nil, subst, take-append-drop}
use Rattle.std.specs.Io.KnownBytes.{Appends, Keeps}
use Rattle.std.proofs.KnownBytes.{Appends-nil, Appends-trans}
use Rattle.glue_ends.specs.Causes.{AppendsPrefix}

-- all but the rest was appended
pub record AppendsUpTo (old new : Option (List ℕ)) (all rest : List ℕ) : Type 0 where
  pub front : List ℕ
  pub whole : all ≡ front ++ rest
  pub appended : Appends old new front

pub up_to_start : (a : Option (List ℕ)) (all : List ℕ) → AppendsUpTo a a all all
up_to_start a all = record { front = []; whole = refl; appended = Appends-nil a }

pub up_to_more : (a b c : Option (List ℕ)) (all rest : List ℕ) (n : ℕ) → AppendsUpTo a b all rest → Appends b c (take n rest) → AppendsUpTo a c all (drop n rest)
up_to_more a b c all rest n p more = record {
  front = p.front ++ take n rest;
  whole = p.whole ∙ ap (λ l. p.front ++ l) (sym (take-append-drop n rest)) ∙ sym (append_assoc p.front (take n rest) (drop n rest));
  appended = Appends-trans a b c _ _ p.appended more;
}

appends_kept : (a b c : Option (List ℕ)) (bs : List ℕ) → Appends a b bs → Keeps b c → Appends a c bs
appends_kept None b c bs taken same = tt
appends_kept (Some xs) None c bs taken same = absurd taken
appends_kept (Some xs) (Some ys) None bs taken same = absurd same
appends_kept (Some xs) (Some ys) (Some zs) bs taken same = same ∙ taken

pub up_to_kept : (a b c : Option (List ℕ)) (all rest : List ℕ) → AppendsUpTo a b all rest → Keeps b c → AppendsUpTo a c all rest
up_to_kept a b c all rest p same = record { front = p.front; whole = p.whole; appended = appends_kept a b c _ p.appended same }

pub up_to_prefix : (a b : Option (List ℕ)) (all rest : List ℕ) → AppendsUpTo a b all rest → AppendsPrefix a b all
up_to_prefix a b all rest p = record { front = p.front; rest = rest; whole = p.whole; appended = p.appended }

pub up_to_end : (a b : Option (List ℕ)) (all rest : List ℕ) → rest ≡ [] → AppendsUpTo a b all rest → Appends a b all
up_to_end a b all rest empty p =
    let P : List ℕ → Type 0 = λ l. Appends a b l in
    subst P (sym (p.whole ∙ ap (λ l. p.front ++ l) empty ∙ append-nil p.front)) p.appended
