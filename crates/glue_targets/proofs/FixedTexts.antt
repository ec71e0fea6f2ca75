-- What the fixed texts of Deno but the frame's end hold and publish, and where they fit, whatever the stem is.
use Rattle.std.proofs.Common.{◌≡◌, ℕ, inl, inr, Bool, List, [], ◌∷◌, ◌++◌, refl, true, false, ap, subst}
use Rattle.std.specs.Prelude.{codes, is_ok}
use Rattle.values.specs.Lists.{IsIn}
use Rattle.glue_words.specs.declared.item.Item.{Item}
use Rattle.glue_words.specs.declared.item.Role.{Role}
use Rattle.glue_words.specs.declared.item.Role.TheVariants as role
use Rattle.glue_words.specs.Facts.{facts}
use Rattle.glue_words.proofs.Belonging.{Context}
use Rattle.glue_words.proofs.Fitting.{Fits}
use Rattle.glue_words.specs.Linking.{AreAmong}
use Rattle.glue_marked.specs.Marked.{read_marked}
use Rattle.glue_words.specs.Names.{bound_in, used_in, hosted_in, wasm_in}
use Rattle.glue_marked.specs.Reads.{words_in}
use Rattle.glue_marked.proofs.Reading.{reading}
use Rattle.glue_marked.proofs.StandIns.{renamed_text_fits}
use Rattle.glue_shared.specs.declared.settings.Settings.{Settings}
use Rattle.glue_shared.specs.declared.settings.Target.{Target}
use Rattle.glue_shared.specs.declared.settings.Target.TheVariants as target
use Rattle.glue_targets.specs.declared.deno.TheConstants as deno
use Rattle.glue_targets.specs.Published.{is_exported, published_by, fixed_by, texts_of, IsAssigned}
use Rattle.glue_targets.specs.Targets.{FixedText, Frame, file_names, frame_start, loading_item, frame_texts}
use Rattle.glue_targets.specs.Targets.{loading_texts}

-- ---- the texts are read

pub start_reads : is_ok (read_marked deno.FRAME_START.now) ≡ true
unfolding reading
start_reads = refl

pub start_memory_reads : is_ok (read_marked deno.FRAME_START_MEMORY.now) ≡ true
unfolding reading
start_memory_reads = refl

pub modules_read : is_ok (read_marked deno.FRAME_MODULES.now) ≡ true
unfolding reading
modules_read = refl

pub module_reads : is_ok (read_marked deno.FRAME_MODULE.now) ≡ true
unfolding reading
module_reads = refl

pub strings_read : is_ok (read_marked deno.FRAME_STRINGS.now) ≡ true
unfolding reading
strings_read = refl

pub end_reads : is_ok (read_marked deno.FRAME_END.now) ≡ true
unfolding reading
end_reads = refl

pub loading_reads : is_ok (read_marked deno.LOADING.now) ≡ true
unfolding reading
loading_reads = refl

pub loading_strings_reads : is_ok (read_marked deno.LOADING_STRINGS.now) ≡ true
unfolding reading
loading_strings_reads = refl

pub call_reads : is_ok (read_marked deno.START_CALL.now) ≡ true
unfolding reading
call_reads = refl

-- ---- the names that they declare and use, and the exports that they take

-- what the frame's start declares, where its function takes the memory or not
abbrev pub start_binds : Bool → List (List ℕ)
start_binds true = codes "__wbg_get_imports" ∷ codes "memory" ∷ codes "import0" ∷ []
start_binds false = codes "__wbg_get_imports" ∷ codes "import0" ∷ []

-- what the call of the start function uses, and the export that it takes
abbrev pub call_uses : Bool → List (List ℕ)
call_uses true = codes "wasm" ∷ []
call_uses false = []

abbrev pub call_takes : Bool → List (List ℕ)
call_takes true = codes "__wbindgen_start" ∷ []
call_takes false = []

-- what loading uses, with that call or without it
abbrev pub loading_uses : Bool → List (List ℕ)
loading_uses starts =
    codes "wasmUrl" ∷ codes "__wbg_get_imports" ∷ codes "wasmInstantiated" ∷ codes "wasmInstance" ∷ call_uses starts

module _ (stem : List ℕ) where
  pub start_bound : (memory : Bool) → bound_in (frame_start stem memory).words ≡ start_binds memory
  unfolding reading
  start_bound false = refl
  start_bound true = refl

  pub start_used : (memory : Bool) → used_in (frame_start stem memory).words ≡ []
  unfolding reading
  start_used false = refl
  start_used true = refl

  pub start_hosted : (memory : Bool) → hosted_in (frame_start stem memory).words ≡ []
  unfolding reading
  start_hosted false = refl
  start_hosted true = refl

  pub loading_bound : (strings starts : Bool) → bound_in (loading_item stem strings starts).words
      ≡ codes "wasmUrl" ∷ codes "wasmInstantiated" ∷ codes "wasmInstance" ∷ codes "wasm" ∷ []
  unfolding reading
  loading_bound false false = refl
  loading_bound false true = refl
  loading_bound true false = refl
  loading_bound true true = refl

  pub loading_used : (strings starts : Bool) → used_in (loading_item stem strings starts).words ≡ loading_uses starts
  unfolding reading
  loading_used false false = refl
  loading_used false true = refl
  loading_used true false = refl
  loading_used true true = refl

  pub loading_hosted : (strings starts : Bool) → hosted_in (loading_item stem strings starts).words
      ≡ codes "URL" ∷ codes "WebAssembly" ∷ codes "fetch" ∷ []
  unfolding reading
  loading_hosted false false = refl
  loading_hosted false true = refl
  loading_hosted true false = refl
  loading_hosted true true = refl

  pub loading_taken : (strings starts : Bool) → wasm_in (loading_item stem strings starts).words ≡ call_takes starts
  unfolding reading
  loading_taken false false = refl
  loading_taken false true = refl
  loading_taken true false = refl
  loading_taken true true = refl

-- ---- they publish nothing

module _ (stem : List ℕ) where
  pub start_exported : (memory : Bool) → is_exported (frame_start stem memory) ≡ false
  unfolding reading
  start_exported false = refl
  start_exported true = refl

  pub start_publishes : (memory : Bool) → published_by (frame_start stem memory) ≡ []
  start_publishes memory = refl

  pub start_fixed : (memory : Bool) → fixed_by (frame_start stem memory) ≡ []
  unfolding reading
  start_fixed false = refl
  start_fixed true = refl

  pub loading_exported : (strings starts : Bool) → is_exported (loading_item stem strings starts) ≡ false
  unfolding reading
  loading_exported false false = refl
  loading_exported false true = refl
  loading_exported true false = refl
  loading_exported true true = refl

  pub loading_publishes : (strings starts : Bool) → published_by (loading_item stem strings starts) ≡ []
  loading_publishes strings starts = refl

  pub loading_fixed : (strings starts : Bool) → fixed_by (loading_item stem strings starts) ≡ []
  unfolding reading
  loading_fixed false false = refl
  loading_fixed false true = refl
  loading_fixed true false = refl
  loading_fixed true true = refl

frame_assigns : (t : Target) (stem : List ℕ) (frame : Frame) (text : FixedText) → t ≡ target.Deno
    → IsIn text (frame_texts t stem frame) → text.assigns ≡ []
frame_assigns t stem frame text e h =
    elim (subst (λ (u : Target). IsIn text (frame_texts u stem frame)) e h) [
      | inl same ↦ ap (λ (x : FixedText). x.assigns) same
      | inr (inl same) ↦ ap (λ (x : FixedText). x.assigns) same
      | inr (inr none) ↦ absurd none
    ]

loading_assigns : (t : Target) (stem : List ℕ) (frame : Frame) (text : FixedText) → t ≡ target.Deno
    → IsIn text (loading_texts t stem frame false ++ loading_texts t stem frame true) → text.assigns ≡ []
loading_assigns t stem frame text e h =
    elim (subst (λ (u : Target). IsIn text (loading_texts u stem frame false ++ loading_texts u stem frame true)) e h) [
      | inl same ↦ ap (λ (x : FixedText). x.assigns) same
      | inr (inl same) ↦ ap (λ (x : FixedText). x.assigns) same
      | inr (inr none) ↦ absurd none
    ]

text_assigns : (s : Settings) (frame : Frame) (r : Role) (text : FixedText) → s.target ≡ target.Deno
    → IsIn text (texts_of s frame r) → text.assigns ≡ []
text_assigns s frame role.Fixed text e h = frame_assigns s.target s.stem frame text e h
text_assigns s frame role.Loading text e h = loading_assigns s.target s.stem frame text e h
text_assigns s frame r text e h = absurd h

-- no text of Deno publishes a name otherwise than by an export clause
pub nothing_assigned : (s : Settings) (items : List Item) (name : List ℕ) → s.target ≡ target.Deno
    → IsAssigned s items name → ⊥
nothing_assigned s items name e a = subst (IsIn name) (text_assigns s a.frame a.item.role a.text e a.known) a.assigns

-- ---- they fit where the names that they use are declared, and those of the host and the exports that they take known

module _ (c : Context) (stem : List ℕ) where
  pub start_fits : (memory : Bool) → Fits c (facts (frame_start stem memory).words)
  unfolding reading
  start_fits false =
      renamed_text_fits c (words_in deno.FRAME_START.now) [] (file_names stem) refl
      (record { idents = refl; no_locals = tt; no_module = tt; marked = refl }) tt tt tt
  start_fits true =
      renamed_text_fits c (words_in deno.FRAME_START_MEMORY.now) [] (file_names stem) refl
      (record { idents = refl; no_locals = tt; no_module = tt; marked = refl }) tt tt tt

  pub loading_fits : (strings starts : Bool) → AreAmong (loading_uses starts) c.declared
      → AreAmong (codes "URL" ∷ codes "WebAssembly" ∷ codes "fetch" ∷ []) c.hosts
      → AreAmong (call_takes starts) c.exports → Fits c (facts (loading_item stem strings starts).words)
  unfolding reading
  loading_fits false false declared hosts exports =
      renamed_text_fits c (words_in deno.LOADING.now) [] (file_names stem) refl
      (record { idents = refl; no_locals = tt; no_module = tt; marked = refl }) declared hosts exports
  loading_fits false true declared hosts exports =
      renamed_text_fits c (words_in deno.LOADING.now ++ words_in deno.START_CALL.now) [] (file_names stem) refl
      (record { idents = refl; no_locals = tt; no_module = tt; marked = refl }) declared hosts exports
  loading_fits true false declared hosts exports =
      renamed_text_fits c (words_in deno.LOADING_STRINGS.now) [] (file_names stem) refl
      (record { idents = refl; no_locals = tt; no_module = tt; marked = refl }) declared hosts exports
  loading_fits true true declared hosts exports =
      renamed_text_fits c (words_in deno.LOADING_STRINGS.now ++ words_in deno.START_CALL.now) [] (file_names stem) refl
      (record { idents = refl; no_locals = tt; no_module = tt; marked = refl }) declared hosts exports
