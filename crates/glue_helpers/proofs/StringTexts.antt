-- The helpers that pass strings: their texts are read, their names, and where they fit.
use Rattle.std.proofs.Common.{◌≡◌, ℕ, [], ◌∷◌, refl, Bool, true, false}
use Rattle.std.specs.Prelude.{codes, is_ok}
use Rattle.std.specs.List.{list_all}
use Rattle.glue_words.specs.Facts.{facts}
use Rattle.glue_words.specs.Ident.{is_ident}
use Rattle.glue_words.specs.Linking.{AreAmong}
use Rattle.glue_words.proofs.Belonging.{Context}
use Rattle.glue_words.proofs.Fitting.{Fits}
use Rattle.glue_marked.specs.Marked.{read_marked}
use Rattle.glue_marked.specs.Reads.{words_in}
use Rattle.glue_marked.proofs.Reading.{reading}
use Rattle.glue_helpers.specs.declared.strings.TheConstants as strings
use Rattle.glue_helpers.specs.declared.element.ElementKind.TheVariants.{U8}
use Rattle.glue_helpers.specs.Items.{named_words}
use Rattle.glue_helpers.specs.Numbered.{array_view_name, get_string_name, pass_string_name}
use Rattle.glue_helpers.specs.Strings.{string_stand_ins, get_string, get_string_names, pass_string_text, pass_string}
use Rattle.glue_helpers.specs.Strings.{pass_string_hosts, pass_string_names}
use Rattle.glue_helpers.specs.TextNames.{TextNames, plain_names}
use Rattle.glue_helpers.proofs.Numbered.{numbered_name, ident_before, array_view_ident}
use Rattle.glue_helpers.proofs.Telling.{Tells, Holds, named_holds, named_fits}

-- ---- the texts are read

pub get_string_reads : is_ok (read_marked strings.GET_STRING.now) ≡ true
unfolding reading
get_string_reads = refl

pub pass_string_reads : (tested : Bool) → is_ok (read_marked (pass_string_text tested)) ≡ true
unfolding reading
pass_string_reads true = refl
pass_string_reads false = refl

-- ---- what they tell of their names, by their stand-ins

abbrev get_string_told : TextNames
get_string_told = plain_names (codes "$name" ∷ []) (codes "decodeText" ∷ codes "$view" ∷ []) []

get_string_tells : Tells (words_in strings.GET_STRING.now) get_string_told
unfolding reading
get_string_tells = refl

abbrev pass_string_told : Bool → TextNames
pass_string_told tested =
    plain_names (codes "$name" ∷ []) (codes "$view" ∷ codes "cachedTextEncoder" ∷ codes "WASM_VECTOR_LEN" ∷ [])
    (pass_string_hosts tested)

pass_string_tells : (tested : Bool) → Tells (words_in (pass_string_text tested)) (pass_string_told tested)
unfolding reading
pass_string_tells true = refl
pass_string_tells false = refl

-- ---- their names, and where they fit

module _ (memory : ℕ) where
  pub get_string_holds : Holds (get_string memory).words (get_string_names memory)
  unfolding named_words
  get_string_holds =
      named_holds (words_in strings.GET_STRING.now) get_string_told get_string_tells
      (string_stand_ins memory (get_string_name memory)) []

  pub pass_string_holds : (tested : Bool) → Holds (pass_string memory tested).words (pass_string_names memory tested)
  unfolding named_words
  pass_string_holds true =
      named_holds (words_in strings.TESTED_PASS_STRING.now) (pass_string_told true) (pass_string_tells true)
      (string_stand_ins memory (pass_string_name memory)) []
  pass_string_holds false =
      named_holds (words_in strings.PASS_STRING.now) (pass_string_told false) (pass_string_tells false)
      (string_stand_ins memory (pass_string_name memory)) []

  get_string_idents : list_all is_ident (get_string_name memory ∷ array_view_name U8 memory ∷ []) ≡ true
  unfolding reading
  get_string_idents =
      ident_before (get_string_name memory) (array_view_name U8 memory ∷ [])
      (numbered_name (codes "getStringFromWasm") memory refl refl)
      (ident_before (array_view_name U8 memory) [] (array_view_ident U8 memory) refl)

  pass_string_idents : list_all is_ident (pass_string_name memory ∷ array_view_name U8 memory ∷ []) ≡ true
  unfolding reading
  pass_string_idents =
      ident_before (pass_string_name memory) (array_view_name U8 memory ∷ [])
      (numbered_name (codes "passStringToWasm") memory refl refl)
      (ident_before (array_view_name U8 memory) [] (array_view_ident U8 memory) refl)

  pub get_string_fits : (c : Context) → AreAmong (get_string_names memory).uses c.declared
      → Fits c (facts (get_string memory).words)
  unfolding reading named_words
  get_string_fits c uses =
      named_fits (words_in strings.GET_STRING.now) get_string_told get_string_tells
      (string_stand_ins memory (get_string_name memory)) [] c get_string_idents refl refl uses tt tt

  pub pass_string_fits : (tested : Bool) (c : Context) → AreAmong (pass_string_names memory tested).uses c.declared
      → AreAmong (pass_string_hosts tested) c.hosts → Fits c (facts (pass_string memory tested).words)
  unfolding reading named_words
  pass_string_fits true c uses hosts =
      named_fits (words_in strings.TESTED_PASS_STRING.now) (pass_string_told true) (pass_string_tells true)
      (string_stand_ins memory (pass_string_name memory)) [] c pass_string_idents refl refl uses hosts tt
  pass_string_fits false c uses hosts =
      named_fits (words_in strings.PASS_STRING.now) (pass_string_told false) (pass_string_tells false)
      (string_stand_ins memory (pass_string_name memory)) [] c pass_string_idents refl refl uses hosts tt
