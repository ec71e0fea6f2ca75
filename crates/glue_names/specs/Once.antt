-- Names that imports begin with, and pairs of exports and closures' adapters, each once.
use Rattle.std.specs.Prelude.{ℕ, ◌==◌, Bool, ◌&&◌, not, List, [], ◌∷◌, filter}
use Rattle.std.specs.List.{list_any}
use Rattle.std.specs.Ordering.{nat_cmp, ordering_then}
use Rattle.std.specs.declared.cmp.Ordering.{Ordering}
use Rattle.wasm_core.specs.ids.ExportId.{ExportId}
use Rattle.glue_shared.specs.declared.import.JsImportName.{JsImportName}
use Rattle.glue_published.specs.Reexports.{is_same}

-- each of these once, where it comes first, by a test of which are the same
abbrev pub once_by : {A : Type 0} → (A → A → Bool) → List A → List A
once_by same [] = []
once_by same (x ∷ xs) = x ∷ filter (λ other. not (same other x)) (once_by same xs)

-- each of these names once, where it comes first
abbrev pub each_once : List JsImportName → List JsImportName
each_once names = once_by is_same names

-- a name is the same as one of these
abbrev pub has_name : JsImportName → List JsImportName → Bool
has_name name names = list_any (is_same name) names

-- each of these names that isn't among those before, once
abbrev pub each_new : (before names : List JsImportName) → List JsImportName
each_new before names = filter (λ name. not (has_name name before)) (each_once names)

-- two pairs are of one export and one adapter
abbrev pub is_same_pair : ExportId × ℕ → ExportId × ℕ → Bool
is_same_pair pair other = pair.0.0 == other.0.0 && pair.1 == other.1

-- each of these pairs once, where it comes first
abbrev pub each_pair : List (ExportId × ℕ) → List (ExportId × ℕ)
each_pair pairs = once_by is_same_pair pairs

-- pairs of numbers by the first, and then by the second
abbrev pub number_pair_order : ℕ × ℕ → ℕ × ℕ → Ordering
number_pair_order x y = ordering_then (nat_cmp x.0 y.0) (nat_cmp x.1 y.1)
