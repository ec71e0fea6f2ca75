-- Entries by their modules: where an entry stands, and the names that entries give.
use Rattle.std.proofs.Common.{◌≡◌, ℕ, Bool, true, false, true≢false, List, [], ◌∷◌, inl, inr, refl, ap, sym, ◌∙◌, cond, map}
use Rattle.std.proofs.lemmas.Map.Text.{is_eq-slice_cmp}
use Rattle.std.proofs.lemmas.Slice.Eq.{bytes_eq-Decides}
use Rattle.std.specs.Prelude.{Some, filter}
use Rattle.std.specs.List.{flat_map}
use Rattle.std.specs.Map.{keys_of}
use Rattle.std.specs.Str.{bytes_eq}
use Rattle.values.specs.Lists.{IsIn, AreDistinct}
use Rattle.values.specs.Map.{look_up}
use Rattle.values.proofs.Members.{in_either, in_left, in_right}
use Rattle.glue_lines.specs.Lines.{LineEntry}
use Rattle.glue_lines.specs.Grouped.{entries_of, some_entries, text_order}
use Rattle.glue_lines.proofs.LineFacts.{entry_names}

-- ---- lists

-- what is in a list that is mapped
pub from_map : {A B : Type 0} (f : A → B) (y : B) (xs : List A) → IsIn y (map f xs) → (x : A) × IsIn x xs × (y ≡ f x)
from_map f y [] at = absurd at
from_map f y (x ∷ xs) (inl same) = (x, inl refl, same)
from_map f y (x ∷ xs) (inr at) = let r = from_map f y xs at in (r.0, inr r.1, r.2)

pub in_map : {A B : Type 0} (f : A → B) (x : A) (xs : List A) → IsIn x xs → IsIn (f x) (map f xs)
in_map f x [] at = absurd at
in_map f x (y ∷ xs) (inl same) = inl (ap f same)
in_map f x (y ∷ xs) (inr at) = inr (in_map f x xs at)

-- what is in lists that are joined
pub from_lists : {A B : Type 0} (f : A → List B) (y : B) (xs : List A) → IsIn y (flat_map f xs)
    → (x : A) × IsIn x xs × IsIn y (f x)
from_lists f y [] at = absurd at
from_lists f y (x ∷ xs) at = elim (in_either y (f x) (flat_map f xs) at) [
  | inl here ↦ (x, inl refl, here)
  | inr later ↦ let r = from_lists f y xs later in (r.0, inr r.1, r.2)
]

pub in_lists : {A B : Type 0} (f : A → List B) (y : B) (x : A) (xs : List A) → IsIn x xs → IsIn y (f x)
    → IsIn y (flat_map f xs)
in_lists f y x [] at here = absurd at
in_lists f y x (z ∷ xs) (inl same) here = in_left y (f z) (flat_map f xs) (rw (← same) here)
in_lists f y x (z ∷ xs) (inr at) here = in_right y (f z) (flat_map f xs) (in_lists f y x xs at here)

-- two that a function gives one value are one, where its values are distinct
pub one_of : {A B : Type 0} (f : A → B) (x y : A) (xs : List A) → AreDistinct (map f xs) → IsIn x xs → IsIn y xs
    → f x ≡ f y → x ≡ y
one_of f x y [] d at there e = absurd at
one_of f x y (z ∷ xs) d (inl same) (inl also) e = same ∙ sym also
one_of f x y (z ∷ xs) d (inl same) (inr there) e =
    absurd (d.0 (rw (← ap f same, e) (in_map f y xs there)))
one_of f x y (z ∷ xs) d (inr at) (inl also) e =
    absurd (d.0 (rw (← ap f also, ← e) (in_map f x xs at)))
one_of f x y (z ∷ xs) d (inr at) (inr there) e = one_of f x y xs d.1 at there e

-- ---- entries of a module

-- an entry of a module stands there with that module
pub from_entries : (path : List ℕ) (entry : LineEntry) (placed : List (List ℕ × LineEntry)) → IsIn entry (entries_of path placed)
    → IsIn (path, entry) placed
from_entries path entry [] at = absurd at
from_entries path entry (p ∷ placed) at = here (bytes_eq path p.0) refl at (from_entries path entry placed)
  where
    here : (b : Bool) → bytes_eq path p.0 ≡ b
        → IsIn entry (map (λ (q : List ℕ × LineEntry). q.1) (cond b (p ∷ filter (λ (q : List ℕ × LineEntry). bytes_eq path q.0) placed)
        (filter (λ (q : List ℕ × LineEntry). bytes_eq path q.0) placed)))
        → (IsIn entry (entries_of path placed) → IsIn (path, entry) placed) → IsIn (path, entry) (p ∷ placed)
    here true e (inl same) later =
        inl (ap (λ (k : List ℕ). (k, entry)) ((bytes_eq-Decides path p.0).0 e) ∙ ap (λ (x : LineEntry). (p.0, x)) same)
    here true e (inr at) later = inr (later at)
    here false e at later = inr (later at)

pub in_entries : (path : List ℕ) (entry : LineEntry) (placed : List (List ℕ × LineEntry)) → IsIn (path, entry) placed
    → IsIn entry (entries_of path placed)
in_entries path entry [] at = absurd at
in_entries path entry (p ∷ placed) at = here (bytes_eq path p.0) refl at (in_entries path entry placed)
  where
    here : (b : Bool) → bytes_eq path p.0 ≡ b → IsIn (path, entry) (p ∷ placed)
        → (IsIn (path, entry) placed → IsIn entry (entries_of path placed))
        → IsIn entry (map (λ (q : List ℕ × LineEntry). q.1) (cond b (p ∷ filter (λ (q : List ℕ × LineEntry). bytes_eq path q.0) placed)
        (filter (λ (q : List ℕ × LineEntry). bytes_eq path q.0) placed)))
    here true e (inl same) later = inl (ap (λ (q : List ℕ × LineEntry). q.1) same)
    here true e (inr at) later = inr (later at)
    here false e (inl same) later =
        absurd (true≢false (sym ((bytes_eq-Decides path p.0).1 (ap (λ (q : List ℕ × LineEntry). q.0) same)) ∙ e))
    here false e (inr at) later = later at

-- the names that placed entries give
abbrev pub placed_entry_names : List (List ℕ × LineEntry) → List (List ℕ)
placed_entry_names placed = map (λ (p : List ℕ × LineEntry). p.1.1) placed

-- a name that an entry of a module gives
pub given_from : (path name : List ℕ) (placed : List (List ℕ × LineEntry)) → IsIn name (entry_names (entries_of path placed))
    → (entry : LineEntry) × IsIn (path, entry) placed × (name ≡ entry.1)
given_from path name placed at =
    let r = from_map (λ (entry : LineEntry). entry.1) name (entries_of path placed) at in
    (r.0, from_entries path r.0 placed r.1, r.2)

-- those of a module are distinct where all are
pub given_distinct : (path : List ℕ) (placed : List (List ℕ × LineEntry)) → AreDistinct (placed_entry_names placed)
    → AreDistinct (entry_names (entries_of path placed))
given_distinct path [] d = tt
given_distinct path (p ∷ placed) d = here (bytes_eq path p.0) (given_distinct path placed d.1)
  where
    here : (b : Bool) → AreDistinct (entry_names (entries_of path placed))
        → AreDistinct (entry_names (map (λ (q : List ℕ × LineEntry). q.1)
        (cond b (p ∷ filter (λ (q : List ℕ × LineEntry). bytes_eq path q.0) placed)
        (filter (λ (q : List ℕ × LineEntry). bytes_eq path q.0) placed))))
    here true rest = (
      λ at.
          let r = given_from path p.1.1 placed at in
          d.0 (rw (r.2) (in_map (λ (q : List ℕ × LineEntry). q.1.1) (path, r.0) placed r.1)),
      rest,
    )
    here false rest = rest

-- ---- lines

-- entries that are there
pub some_is : (entries found : List LineEntry) → some_entries entries ≡ Some found → entries ≡ found
some_is [] found e = cc
some_is (entry ∷ entries) found e = cc

-- what is looked up is there
pub found_line : (lines : List (List ℕ × List LineEntry)) (path : List ℕ) (entries : List LineEntry)
    → look_up text_order lines path ≡ Some entries → IsIn (path, entries) lines
found_line [] path entries e = cc
found_line (line ∷ lines) path entries e =
    here (bytes_eq path line.0) refl
    (ap (λ (b : Bool). cond b (Some line.1) (look_up text_order lines path)) (sym (is_eq-slice_cmp path line.0)) ∙ e)
    (found_line lines path entries)
  where
    here : (b : Bool) → bytes_eq path line.0 ≡ b → cond b (Some line.1) (look_up text_order lines path) ≡ Some entries
        → (look_up text_order lines path ≡ Some entries → IsIn (path, entries) lines)
        → IsIn (path, entries) (line ∷ lines)
    here true q h later =
        let same : line.1 ≡ entries = cc in
        inl (ap (λ (k : List ℕ). (k, entries)) ((bytes_eq-Decides path line.0).0 q)
        ∙ ap (λ (es : List LineEntry). (line.0, es)) (sym same))
    here false q h later = inr (later h)

-- and what is there is looked up, where keys are distinct
pub own_line : (lines : List (List ℕ × List LineEntry)) (path : List ℕ) (entries : List LineEntry)
    → AreDistinct (keys_of lines) → IsIn (path, entries) lines → look_up text_order lines path ≡ Some entries
own_line [] path entries d at = absurd at
own_line (line ∷ lines) path entries d at =
    ap (λ (b : Bool). cond b (Some line.1) (look_up text_order lines path)) (is_eq-slice_cmp path line.0)
    ∙ here (bytes_eq path line.0) refl at (own_line lines path entries d.1)
  where
    here : (b : Bool) → bytes_eq path line.0 ≡ b → IsIn (path, entries) (line ∷ lines)
        → (IsIn (path, entries) lines → look_up text_order lines path ≡ Some entries)
        → cond b (Some line.1) (look_up text_order lines path) ≡ Some entries
    here true q (inl same) later = ap (λ (l : List ℕ × List LineEntry). Some l.1) (sym same)
    here true q (inr at) later =
        absurd (d.0 (rw (← (bytes_eq-Decides path line.0).0 q) (in_map (λ (l : List ℕ × List LineEntry). l.0) (path, entries) lines at)))
    here false q (inl same) later =
        absurd (true≢false (sym ((bytes_eq-Decides path line.0).1 (ap (λ (l : List ℕ × List LineEntry). l.0) same)) ∙ q))
    here false q (inr at) later = later at
