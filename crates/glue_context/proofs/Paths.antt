-- The modules of imports, of the collected module and of the one that is written.
use Rattle.glue_context.proofs.Common.{◌≡◌, ℕ, zero, suc, ◌+◌, ◌<◌, List, [], ◌∷◌, map, length, true, false, true≢false, refl, sym, ap, ◌∙◌, fold, arith, Option, Some, None, is_some, Contents, Import, ImportId, Settings, Lowered, live_count, with_moved, with_import, edits_of, rewritten}
use Rattle.std.specs.Prelude.{slice_get, slice_set, cond}
use Rattle.std.proofs.lemmas.List.Sums.{sum_by-cons}
use Rattle.wasm_core.specs.Edits.{renamed}
use Rattle.glue_context.specs.Foreign.{path_of, has_path, with_path, with_move}
use Rattle.glue_context.proofs.Edited.{written_imports}

-- ---- one change

pub is_within : (paths : List (Option (List ℕ))) (place : ℕ) → has_path paths place ≡ true → place < length paths
is_within [] place h = absurd (true≢false (sym h))
is_within (o ∷ os) zero h = omega arith
is_within (o ∷ os) (suc place) h = let rest = is_within os place h in omega (arith, rest)

pub set_there : (paths : List (Option (List ℕ))) (place : ℕ) (path : List ℕ) → has_path paths place ≡ true
    → slice_set paths place (Some path) ≡ with_path paths place path
set_there [] place path h = absurd (true≢false (sym h))
set_there (Some old ∷ os) zero path h = refl
set_there (None ∷ os) zero path h = absurd (true≢false (sym h))
set_there (o ∷ os) (suc place) path h = ap (λ (xs : List (Option (List ℕ))). o ∷ xs) (set_there os place path h)

pub none_there : (paths : List (Option (List ℕ))) (place : ℕ) (path : List ℕ) → has_path paths place ≡ false → paths ≡ with_path paths place path
none_there [] place path h = refl
none_there (Some old ∷ os) zero path h = absurd (true≢false h)
none_there (None ∷ os) zero path h = refl
none_there (o ∷ os) (suc place) path h = ap (λ (xs : List (Option (List ℕ))). o ∷ xs) (none_there os place path h)

-- ---- the written module

-- an import that moves has its module
one_moved : (imports : List (Option Import)) (place : ℕ) (path name : List ℕ)
    → map path_of (slice_set imports place (renamed path name (slice_get imports place))) ≡ with_path (map path_of imports) place path
one_moved [] place path name = refl
one_moved (Some i ∷ is) zero path name = refl
one_moved (None ∷ is) zero path name = refl
one_moved (i ∷ is) (suc place) path name = ap (λ (xs : List (Option (List ℕ))). path_of i ∷ xs) (one_moved is place path name)

all_moved : (m : Contents) (moves : List (ImportId × List ℕ × List ℕ)) → map path_of (fold with_moved m moves).imports ≡ fold with_move (map path_of m.imports) moves
unfolding with_import
all_moved m [] = refl
all_moved m (e ∷ moves) =
    all_moved (with_moved m e) moves
    ∙ ap (λ (paths : List (Option (List ℕ))). fold with_move paths moves) (one_moved m.imports e.0.0 e.1 e.2)

pub written_are : (s : Settings) (l : Lowered) → fold with_move (map path_of l.«module».imports) (edits_of s l).imports ≡ map path_of (rewritten s l).imports
written_are s l = sym (all_moved l.«module» (edits_of s l).imports) ∙ ap (map path_of) (written_imports s l)

-- no change adds an import
path_count : (paths : List (Option (List ℕ))) (place : ℕ) (path : List ℕ) → live_count (with_path paths place path) ≡ live_count paths
path_count [] place path = refl
path_count (o ∷ os) zero path = counted (Some path) o os
  where
    counted : (x o : Option (List ℕ)) (os : List (Option (List ℕ))) → live_count (with_path (o ∷ os) zero path) ≡ live_count (o ∷ os)
    counted x (Some old) os = refl
    counted x None os = refl
path_count (o ∷ os) (suc place) path =
    sum_by-cons (λ (x : Option (List ℕ)). cond (is_some x) 1 0) o (with_path os place path)
    ∙ ap (λ (n : ℕ). cond (is_some o) 1 0 + n) (path_count os place path)
    ∙ sym (sum_by-cons (λ (x : Option (List ℕ)). cond (is_some x) 1 0) o os)

paths_count : (moves : List (ImportId × List ℕ × List ℕ)) (paths : List (Option (List ℕ))) → live_count (fold with_move paths moves) ≡ live_count paths
paths_count [] paths = refl
paths_count (e ∷ moves) paths = paths_count moves (with_path paths e.0.0 e.1) ∙ path_count paths e.0.0 e.1

first_count : (imports : List (Option Import)) → live_count (map path_of imports) ≡ live_count imports
first_count [] = refl
first_count (i ∷ is) =
    sum_by-cons (λ (x : Option (List ℕ)). cond (is_some x) 1 0) (path_of i) (map path_of is)
    ∙ ap (λ (n : ℕ). cond (is_some (path_of i)) 1 0 + n) (first_count is)
    ∙ by i
    ∙ sym (sum_by-cons (λ (x : Option Import). cond (is_some x) 1 0) i is)
  where
    by : (i : Option Import) → cond (is_some (path_of i)) 1 0 + live_count is ≡ cond (is_some i) 1 0 + live_count is
    by None = refl
    by (Some x) = refl

-- as many modules are written as there are imports
pub written_count : (s : Settings) (l : Lowered) → live_count (map path_of (rewritten s l).imports) ≡ live_count l.«module».imports
written_count s l =
    ap live_count (sym (written_are s l)) ∙ paths_count (edits_of s l).imports (map path_of l.«module».imports) ∙ first_count l.«module».imports
