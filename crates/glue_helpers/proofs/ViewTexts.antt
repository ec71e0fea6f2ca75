-- The helpers that give a view of a memory: their texts are read, their names, and where they fit.
use Rattle.std.proofs.Common.{◌≡◌, ℕ, List, [], ◌∷◌, refl, true}
use Rattle.std.specs.Prelude.{codes, is_ok}
use Rattle.std.specs.List.{list_all}
use Rattle.glue_words.specs.Facts.{facts}
use Rattle.glue_words.specs.Ident.{is_ident}
use Rattle.glue_words.specs.Linking.{AreAmong}
use Rattle.glue_words.proofs.Belonging.{Context}
use Rattle.glue_words.proofs.Fitting.{Fits}
use Rattle.glue_marked.specs.Marked.{read_marked}
use Rattle.glue_marked.specs.Reads.{words_in}
use Rattle.glue_marked.proofs.Reading.{reading}
use Rattle.glue_helpers.specs.declared.views.TheConstants as views
use Rattle.glue_helpers.specs.declared.element.ElementKind.{ElementKind}
use Rattle.glue_helpers.specs.Items.{named_words}
use Rattle.glue_helpers.specs.Numbered.{element_class, array_view_name, array_cache_name, data_view_name}
use Rattle.glue_helpers.specs.Numbered.{data_cache_name}
use Rattle.glue_helpers.specs.TextNames.{TextNames}
use Rattle.glue_helpers.specs.Views.{memory_export, array_stand_ins, array_view, data_stand_ins, data_view}
use Rattle.glue_helpers.specs.Views.{array_view_names, data_view_names}
use Rattle.glue_helpers.proofs.Numbered.{numbered_name, ident_before, array_view_ident, array_cache_ident, class_ident}
use Rattle.glue_helpers.proofs.Numbered.{class_away}
use Rattle.glue_helpers.proofs.Telling.{Tells, Holds, named_holds, named_fits}

-- ---- the texts are read

pub array_view_reads : is_ok (read_marked views.ARRAY_VIEW.now) ≡ true
unfolding reading
array_view_reads = refl

pub data_view_reads : is_ok (read_marked views.DATA_VIEW.now) ≡ true
unfolding reading
data_view_reads = refl

-- ---- what they tell of their names, by their stand-ins

-- of the host they use these
abbrev view_told : List (List ℕ) → TextNames
view_told hosts = record {
  binds = codes "$cache" ∷ codes "$view" ∷ [];
  uses = codes "wasm" ∷ codes "$cache" ∷ [];
  hosts = hosts;
  takes = codes "$memory" ∷ [];
}

array_view_tells : Tells (words_in views.ARRAY_VIEW.now) (view_told (codes "$kind" ∷ []))
unfolding reading
array_view_tells = refl

data_view_tells : Tells (words_in views.DATA_VIEW.now) (view_told (codes "undefined" ∷ codes "DataView" ∷ []))
unfolding reading
data_view_tells = refl

-- ---- their names, and where they fit

module _ (memory : ℕ) (export : List ℕ) where
  pub array_view_holds : (e : ElementKind) → Holds (array_view e memory export).words (array_view_names e memory export)
  unfolding named_words
  array_view_holds e =
      named_holds (words_in views.ARRAY_VIEW.now) (view_told (codes "$kind" ∷ [])) array_view_tells
      (array_stand_ins e memory) (memory_export export)

  array_view_idents : (e : ElementKind)
      → list_all is_ident (array_view_name e memory ∷ array_cache_name e memory ∷ element_class e ∷ []) ≡ true
  array_view_idents e =
      ident_before (array_view_name e memory) (array_cache_name e memory ∷ element_class e ∷ [])
      (array_view_ident e memory)
      (ident_before (array_cache_name e memory) (element_class e ∷ []) (array_cache_ident e memory)
      (ident_before (element_class e) [] (class_ident e) refl))

  pub array_view_fits : (e : ElementKind) (c : Context) → AreAmong (array_view_names e memory export).uses c.declared
      → AreAmong (array_view_names e memory export).hosts c.hosts
      → AreAmong (array_view_names e memory export).takes c.exports → Fits c (facts (array_view e memory export).words)
  unfolding reading named_words
  array_view_fits e c uses hosts takes =
      named_fits (words_in views.ARRAY_VIEW.now) (view_told (codes "$kind" ∷ [])) array_view_tells
      (array_stand_ins e memory) (memory_export export) c (array_view_idents e) (class_away e) refl uses hosts takes

  pub data_view_holds : Holds (data_view memory export).words (data_view_names memory export)
  unfolding named_words
  data_view_holds =
      named_holds (words_in views.DATA_VIEW.now) (view_told (codes "undefined" ∷ codes "DataView" ∷ []))
      data_view_tells (data_stand_ins memory) (memory_export export)

  data_view_idents : list_all is_ident (data_view_name memory ∷ data_cache_name memory ∷ []) ≡ true
  unfolding reading
  data_view_idents =
      ident_before (data_view_name memory) (data_cache_name memory ∷ [])
      (numbered_name (codes "getDataViewMemory") memory refl refl)
      (ident_before (data_cache_name memory) [] (numbered_name (codes "cachedDataViewMemory") memory refl refl) refl)

  pub data_view_fits : (c : Context) → AreAmong (data_view_names memory export).uses c.declared
      → AreAmong (data_view_names memory export).hosts c.hosts
      → AreAmong (data_view_names memory export).takes c.exports → Fits c (facts (data_view memory export).words)
  unfolding reading named_words
  data_view_fits c uses hosts takes =
      named_fits (words_in views.DATA_VIEW.now) (view_told (codes "undefined" ∷ codes "DataView" ∷ []))
      data_view_tells (data_stand_ins memory) (memory_export export) c data_view_idents refl refl uses hosts takes
