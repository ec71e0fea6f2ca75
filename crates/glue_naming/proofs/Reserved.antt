-- Names that no drawn one may be: put into a set one list after another, and what is among them.
use Rattle.std.proofs.Common.{◌≡◌, ℕ, zero, suc, true, false, true≢false, List, [], ◌∷◌, ◌++◌, map, Option, Some, None, refl, sym, ◌∙◌}
use Rattle.std.specs.FinSet as set
use Rattle.std.specs.List.{flat_map}
use Rattle.values.specs.Lists.{IsIn, IsAway, AreApart}
use Rattle.values.specs.TextSet.{with_texts}
use Rattle.values.proofs.Members.{in_left, in_right}
use Rattle.wasm_core.specs.declared.types.Import.{Import}
use Rattle.glue_words.proofs.Among.{apart_by}
use Rattle.glue_scope.proofs.Drawn.{with_texts-append, with_texts_keeps, with_texts_there}
use Rattle.glue_shared.specs.declared.description.Lowered.{Lowered}
use Rattle.glue_shared.specs.declared.settings.Settings.{Settings}
use Rattle.glue_shared.specs.Names.{fixed_names, host_names, name_at, own_imports, own_names}
use Rattle.glue_names.specs.Taken.{taken_names}
use Rattle.glue_names.specs.Given.{values_name}
use Rattle.glue_naming.specs.Given.{closure_export, import_name_at, bundled_names, given_names, reserved_names}

-- ---- lists of given names

-- the reserved names are those of four lists
pub given_joined : (s : Settings) (l : Lowered) → reserved_names s l
    ≡ with_texts (with_texts (with_texts (taken_names s l) (flat_map (closure_export l.«module») l.wit.exports)) (map values_name l.aux.string_enums)) (bundled_names s l)
given_joined s l =
    let exported = flat_map (closure_export l.«module») l.wit.exports in
    let valued = map values_name l.aux.string_enums in
    with_texts-append (taken_names s l) exported (valued ++ bundled_names s l)
    ∙ with_texts-append (with_texts (taken_names s l) exported) valued (bundled_names s l)

name_found : (imports : List (Option Import)) (place : ℕ) → name_at place imports ≡ import_name_at imports place
name_found [] place = refl
name_found (None ∷ imports) zero = refl
name_found (Some i ∷ imports) zero = refl
name_found (entry ∷ imports) (suc place) = name_found imports place

names_found : (imports : List (Option Import)) (places : List ℕ) → flat_map (λ place. name_at place imports) places ≡ flat_map (import_name_at imports) places
names_found imports [] = refl
names_found imports (place ∷ places) = rw (name_found imports place, names_found imports places) refl

-- the names of own imports are those that are found at their places
pub own_joined : (s : Settings) (l : Lowered) → own_names s l.«module» l.wit l.aux ≡ flat_map (import_name_at l.«module».imports) (own_imports s l.«module» l.wit l.aux)
unfolding own_names
own_joined s l = names_found l.«module».imports (own_imports s l.«module» l.wit l.aux)

-- ---- what is reserved

module _ (s : Settings) (l : Lowered) where
  -- names of the outside, and those that the glue file binds in each case, are reserved
  host_reserved : (name : List ℕ) → IsIn name (host_names s l.aux) → set.contains (reserved_names s l) name ≡ true
  host_reserved name i =
      with_texts_keeps (taken_names s l) (given_names s l) name
      (with_texts_keeps (with_texts set.empty (host_names s l.aux)) (fixed_names s l.«module») name
      (with_texts_there set.empty (host_names s l.aux) name i))

  fixed_reserved : (name : List ℕ) → IsIn name (fixed_names s l.«module») → set.contains (reserved_names s l) name ≡ true
  fixed_reserved name i =
      with_texts_keeps (taken_names s l) (given_names s l) name
      (with_texts_there (with_texts set.empty (host_names s l.aux)) (fixed_names s l.«module») name i)

  -- so are the names of the lists of string enums
  values_reserved : (name : List ℕ) → IsIn name (map values_name l.aux.string_enums) → set.contains (reserved_names s l) name ≡ true
  values_reserved name i =
      let exported = flat_map (closure_export l.«module») l.wit.exports in
      with_texts_there (taken_names s l) (given_names s l) name
      (in_right name exported (map values_name l.aux.string_enums ++ bundled_names s l)
      (in_left name (map values_name l.aux.string_enums) (bundled_names s l) i))

  -- so a name that isn't reserved is none of these
  pub away_host : (name : List ℕ) → set.contains (reserved_names s l) name ≡ false → IsAway name (host_names s l.aux)
  away_host name free i = true≢false (sym (host_reserved name i) ∙ free)

  pub away_fixed : (name : List ℕ) → set.contains (reserved_names s l) name ≡ false → IsAway name (fixed_names s l.«module»)
  away_fixed name free i = true≢false (sym (fixed_reserved name i) ∙ free)

  -- and neither is one of such names
  pub free_no_host : (names : List (List ℕ)) → ((name : List ℕ) → IsIn name names → set.contains (reserved_names s l) name ≡ false)
      → AreApart names (host_names s l.aux)
  free_no_host names free = apart_by names (host_names s l.aux) (λ name i k. true≢false (sym (host_reserved name k) ∙ free name i))

  pub free_no_fixed : (names : List (List ℕ)) → ((name : List ℕ) → IsIn name names → set.contains (reserved_names s l) name ≡ false)
      → AreApart names (fixed_names s l.«module»)
  free_no_fixed names free = apart_by names (fixed_names s l.«module») (λ name i k. true≢false (sym (fixed_reserved name k) ∙ free name i))

  pub free_no_values : (names : List (List ℕ)) → ((name : List ℕ) → IsIn name names → set.contains (reserved_names s l) name ≡ false)
      → AreApart names (map values_name l.aux.string_enums)
  free_no_values names free = apart_by names (map values_name l.aux.string_enums) (λ name i k. true≢false (sym (values_reserved name k) ∙ free name i))
