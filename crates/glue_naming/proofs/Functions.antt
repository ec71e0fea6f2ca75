-- The names that functions of exports are given: each function that is built has one, an identifier that is taken for nothing else.
use Rattle.std.proofs.Common.{◌≡◌, ◌≢◌, ℕ, true, false, true≢false, List, [], map, Option, Some, None, refl, sym, ap, ◌∙◌, inl}
use Rattle.std.specs.Prelude.{is_some, unwrap_or}
use Rattle.std.specs.FinSet as set
use Rattle.std.specs.List.{list_all}
use Rattle.std.proofs.lemmas.List.Sorted.{IsPermutation-sym}
use Rattle.std.proofs.lemmas.List.Sums.{list_all-from_AllPass}
use Rattle.values.specs.Lists.{IsIn, AreApart}
use Rattle.glue_words.specs.Ident.{is_ident}
use Rattle.glue_shared.specs.declared.aux.AuxExport.{AuxExport}
use Rattle.glue_shared.specs.declared.description.Lowered.{Lowered}
use Rattle.glue_shared.specs.declared.name_map.NameMap.{NameMap}
use Rattle.glue_shared.specs.declared.settings.Settings.{Settings}
use Rattle.glue_shared.specs.Names.{fixed_names, host_names}
use Rattle.glue_names.specs.Publishing.{qualified}
use Rattle.glue_check.proofs.BuiltForm.{IsBuiltExport}
use Rattle.glue_names.proofs.Globals.{in_flat, some_of}
use Rattle.glue_naming.specs.declared.named.Named.TheVariants.{Function}
use Rattle.glue_naming.specs.declared.named.Wanted.{Wanted}
use Rattle.glue_naming.specs.Given.{reserved_names}
use Rattle.glue_naming.specs.Naming.{AreNames, declared_name, function_name, is_named}
use Rattle.glue_naming.specs.Wanted.{function_names, function_wanted}
use Rattle.glue_naming.proofs.Arranged.{all_are, moved_from}
use Rattle.glue_naming.proofs.Draws.{all_at}
use Rattle.glue_names.proofs.MappedLists.{from_map, in_map}
use Rattle.glue_naming.proofs.Reserved.{free_no_fixed, free_no_host}
use Rattle.glue_naming.proofs.WantedNames.{function_there}

-- ---- exports that are built

-- such an export asks for a name
asks : (e : AuxExport) → IsBuiltExport e → IsIn (function_wanted (qualified e)) (function_names e)
asks e b = rw b.alone (inl refl)

function_one : (a b : List ℕ) → Function a ≡ Function b → a ≡ b
function_one a b e = cc

-- ---- a name that was given

module _ (m : NameMap) where
  pub named_some : (e : AuxExport) → is_named m e ≡ true → function_name m e ≢ None
  named_some e h none = true≢false (sym h ∙ ap is_some none)

  pub named_found : (e : AuxExport) (name : List ℕ) → function_name m e ≡ Some name → name ≡ declared_name m e
  named_found e name is = sym (ap (λ (o : Option (List ℕ)). unwrap_or o []) is)

  pub name_given : (e : AuxExport) → is_named m e ≡ true → function_name m e ≡ Some (declared_name m e)
  name_given e h = let r = some_of (function_name m e) h in r.1 ∙ ap Some (named_found e r.0 r.1)

  -- each of these names is that of one of these functions
  pub given_of : (es : List AuxExport) → list_all (is_named m) es ≡ true → (name : List ℕ) → IsIn name (map (declared_name m) es)
      → (e : AuxExport) × IsIn e es × (function_name m e ≡ Some name)
  given_of es named name i =
      let r = from_map (declared_name m) name es i in
      (r.0, r.1, name_given r.0 (all_at (is_named m) r.0 es named r.1) ∙ ap Some (sym r.2))

-- ---- those of a description

module _ (s : Settings) (l : Lowered) (m : NameMap) (n : AreNames s l m) where
  -- each function that is built has a name
  function_named : (e : AuxExport) → IsIn e l.aux.exports → IsBuiltExport e → is_named m e ≡ true
  function_named e i b =
      let w = function_wanted (qualified e) in
      let there = moved_from n.wanted.functions l.aux.exports (IsPermutation-sym _ _ n.wanted.by_debug.same) e i in
      let asked = in_flat function_names n.wanted.functions e w there (asks e b) in
      let among = function_there s l n.list n.wanted w asked in
      ap is_some (n.good.found (Function (qualified e)) (in_map (λ (x : Wanted). x.thing) w n.list among)).1

  pub all_named : (es : List AuxExport) → ((e : AuxExport) → IsIn e es → IsIn e l.aux.exports × IsBuiltExport e) → list_all (is_named m) es ≡ true
  all_named es built =
      list_all-from_AllPass (is_named m) es (all_are (λ (e : AuxExport). is_named m e ≡ true) es
      (λ e i. let h = built e i in function_named e h.0 h.1))

  -- two functions that have one name have one qualified name
  pub functions_apart : (a b : AuxExport) (name : List ℕ) → function_name m a ≡ Some name → function_name m b ≡ Some name → qualified a ≡ qualified b
  functions_apart a b name h k = function_one (qualified a) (qualified b) (n.good.apart (Function (qualified a)) (Function (qualified b)) name h k)

  -- the names are identifiers
  pub functions_idents : (es : List AuxExport) → list_all (is_named m) es ≡ true → list_all is_ident (map (declared_name m) es) ≡ true
  functions_idents es named =
      let names = map (declared_name m) es in
      list_all-from_AllPass is_ident names (all_are (λ (x : List ℕ). is_ident x ≡ true) names
      (λ name i. let r = given_of m es named name i in n.good.idents (Function (qualified r.0)) name r.2))

  -- none of them is reserved
  pub functions_free : (es : List AuxExport) → list_all (is_named m) es ≡ true → (name : List ℕ) → IsIn name (map (declared_name m) es)
      → set.contains (reserved_names s l) name ≡ false
  functions_free es named name i = let r = given_of m es named name i in n.good.free (Function (qualified r.0)) name r.2

  -- so none is of the outside, or one that the glue file binds in each case
  pub functions_no_host : (es : List AuxExport) → list_all (is_named m) es ≡ true → AreApart (map (declared_name m) es) (host_names s l.aux)
  functions_no_host es named = free_no_host s l (map (declared_name m) es) (functions_free es named)

  pub functions_no_fixed : (es : List AuxExport) → list_all (is_named m) es ≡ true → AreApart (map (declared_name m) es) (fixed_names s l.«module»)
  functions_no_fixed es named = free_no_fixed s l (map (declared_name m) es) (functions_free es named)
