-- Names of described imports by what these are: of modules, of vendors, or of the host.
use Rattle.glue_context.proofs.Common.{◌≡◌, ℕ, inl, inr, List, [], ◌∷◌, ◌++◌, map, Bool, true, false, true≢false, refl, sym, ap, flat_map, IsIn, AreDistinct, AreApart, in_left, in_right}
use Rattle.std.proofs.Common.{◌⊎◌}
use Rattle.values.proofs.Members.{in_either}
use Rattle.glue_words.proofs.Among.{apart_by}
use Rattle.glue_shared.specs.declared.import.JsImportName.{JsImportName}
use Rattle.glue_shared.specs.declared.import.JsImportName.TheVariants as js
use Rattle.glue_shared.specs.Names.{is_from_module}
use Rattle.glue_names.specs.Omitted.{name_where}
use Rattle.glue_naming.specs.Listed.{names_drawn}
use Rattle.glue_lines.specs.Lines.{LineEntry}
use Rattle.glue_lines.specs.Grouped.{Imported, placed_entries}
use Rattle.glue_published.specs.Reexports.{is_outside}

-- the name has vendor prefixes
abbrev pub is_vendor_name : JsImportName → Bool
is_vendor_name (js.VendorPrefixed name prefixes) = true
is_vendor_name other = false

-- the names that the glue file has for those that pass a test
abbrev pub names_of_kind : (JsImportName → Bool) → List Imported → List (List ℕ)
names_of_kind test imports = flat_map (λ (import : Imported). name_where (test import.0) import.1) imports

where_is : (b : Bool) (x name : List ℕ) → IsIn x (name_where b name) → (x ≡ name) × (b ≡ true)
where_is true x name (inl same) = (same, refl)
where_is true x name (inr none) = absurd none
where_is false x name none = absurd none

where_there : (b : Bool) (name : List ℕ) → b ≡ true → IsIn name (name_where b name)
where_there true name h = inl refl
where_there false name h = absurd (true≢false (sym h))

-- names of a kind are names
pub kind_names : (test : JsImportName → Bool) (x : List ℕ) (imports : List Imported) → IsIn x (names_of_kind test imports) → IsIn x (names_drawn imports)
kind_names test x [] i = absurd i
kind_names test x (import ∷ imports) i = elim (in_either x (name_where (test import.0) import.1) (names_of_kind test imports) i) [
  | inl here ↦ inl (where_is (test import.0) x import.1 here).0
  | inr later ↦ inr (kind_names test x imports later)
]

distinct_case : (b : Bool) (name : List ℕ) (names : List (List ℕ)) → (IsIn name names → ⊥) → AreDistinct names → AreDistinct (name_where b name ++ names)
distinct_case true name names away d = (away, d)
distinct_case false name names away d = d

-- distinct where all are
pub kind_distinct : (test : JsImportName → Bool) (imports : List Imported) → AreDistinct (names_drawn imports) → AreDistinct (names_of_kind test imports)
kind_distinct test [] d = tt
kind_distinct test (import ∷ imports) d =
    distinct_case (test import.0) import.1 (names_of_kind test imports) (λ i. d.0 (kind_names test import.1 imports i)) (kind_distinct test imports d.1)

-- names are of a module, of a vendor, or of the host
module_or_vendor : (omitted : Bool) (n : JsImportName) → is_outside omitted n ≡ false → (is_from_module n ≡ true) ⊎ (is_vendor_name n ≡ true)
module_or_vendor omitted (js.Global name) h = absurd (true≢false h)
module_or_vendor omitted (js.Module from name) h = inl refl
module_or_vendor omitted (js.LocalModule from name) h = inl refl
module_or_vendor omitted (js.InlineJs from index name) h = inl refl
module_or_vendor omitted (js.VendorPrefixed name prefixes) h = inr refl

not_both : (n : JsImportName) → is_from_module n ≡ true → is_vendor_name n ≡ true → ⊥
not_both (js.VendorPrefixed name prefixes) h k = true≢false (sym h)
not_both (js.Global name) h k = true≢false (sym k)
not_both (js.Module from name) h k = true≢false (sym k)
not_both (js.LocalModule from name) h k = true≢false (sym k)
not_both (js.InlineJs from index name) h k = true≢false (sym k)

pub each_kind : (omitted : Bool) (x : List ℕ) (imports : List Imported) → ((import : Imported) → IsIn import imports → is_outside omitted import.0 ≡ false)
    → IsIn x (names_drawn imports) → IsIn x (names_of_kind is_from_module imports) ⊎ IsIn x (names_of_kind is_vendor_name imports)
each_kind omitted x [] none i = absurd i
each_kind omitted x (import ∷ imports) none (inl same) = elim (module_or_vendor omitted import.0 (none import (inl refl))) [
  | inl h ↦ inl (in_left x (name_where (is_from_module import.0) import.1) _ (rw same (where_there (is_from_module import.0) import.1 h)))
  | inr h ↦ inr (in_left x (name_where (is_vendor_name import.0) import.1) _ (rw same (where_there (is_vendor_name import.0) import.1 h)))
]
each_kind omitted x (import ∷ imports) none (inr i) = elim (each_kind omitted x imports (λ y k. none y (inr k)) i) [
  | inl h ↦ inl (in_right x (name_where (is_from_module import.0) import.1) _ h)
  | inr h ↦ inr (in_right x (name_where (is_vendor_name import.0) import.1) _ h)
]

kind_clash : (x : List ℕ) (imports : List Imported) → AreDistinct (names_drawn imports) → IsIn x (names_of_kind is_from_module imports)
    → IsIn x (names_of_kind is_vendor_name imports) → ⊥
kind_clash x [] d i k = i
kind_clash x (import ∷ imports) d i k =
    elim (in_either x (name_where (is_from_module import.0) import.1) (names_of_kind is_from_module imports) i) [
      | inl one ↦
          let p = where_is (is_from_module import.0) x import.1 one in
          elim (in_either x (name_where (is_vendor_name import.0) import.1) (names_of_kind is_vendor_name imports) k) [
            | inl other ↦ not_both import.0 p.1 (where_is (is_vendor_name import.0) x import.1 other).1
            | inr later ↦ d.0 (rw (← p.0) (kind_names is_vendor_name x imports later))
          ]
      | inr one ↦ elim (in_either x (name_where (is_vendor_name import.0) import.1) (names_of_kind is_vendor_name imports) k) [
        | inl other ↦ d.0 (rw (← (where_is (is_vendor_name import.0) x import.1 other).0) (kind_names is_from_module x imports one))
        | inr later ↦ kind_clash x imports d.1 one later
      ]
    ]

-- those of modules are none of those of vendors, where all are distinct
pub kinds_apart : (imports : List Imported) → AreDistinct (names_drawn imports)
    → AreApart (names_of_kind is_from_module imports) (names_of_kind is_vendor_name imports)
kinds_apart imports d =
    apart_by (names_of_kind is_from_module imports) (names_of_kind is_vendor_name imports) (λ x i k. kind_clash x imports d i k)

-- those of modules are those of the entries of import lines
pub placed_are : (imports : List Imported) → map (λ (p : List ℕ × LineEntry). p.1.1) (placed_entries imports) ≡ names_of_kind is_from_module imports
placed_are [] = refl
placed_are ((js.Global name, bound) ∷ imports) = placed_are imports
placed_are ((js.VendorPrefixed name prefixes, bound) ∷ imports) = placed_are imports
placed_are ((js.Module from name, bound) ∷ imports) = ap (λ (names : List (List ℕ)). bound ∷ names) (placed_are imports)
placed_are ((js.LocalModule from name, bound) ∷ imports) = ap (λ (names : List (List ℕ)). bound ∷ names) (placed_are imports)
placed_are ((js.InlineJs from index name, bound) ∷ imports) = ap (λ (names : List (List ℕ)). bound ∷ names) (placed_are imports)
