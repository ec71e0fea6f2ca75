-- What the frame of a description goes by is what can be read off the module that is written.
use Rattle.glue_context.proofs.Common.{◌≡◌, ℕ, zero, suc, ◌+◌, List, [], ◌∷◌, ◌++◌, map, Bool, true, false, true≢false, refl, sym, ap, ◌∙◌, subst, fold, arith, take, flat_map, list_any, bytes_eq, is_some, Option, Some, None, option_map, IsIn, Contents, Import, ImportId, Settings, Lowered, Frame, own_imports, entry_at, edits_of, rewritten, with_added, with_moved, with_import, foreign_modules, frame_of, module_at, modules_from, FileFlags, unbuilt, verdict}
use Rattle.std.specs.Prelude.{slice_get, slice_set, cond, ◌&&◌, ◌||◌, not}
use Rattle.std.proofs.lemmas.Bool.{and_parts}
use Rattle.std.proofs.lemmas.Option.{same_Some}
use Rattle.wasm_core.specs.Edits.{renamed, with_export, without_start}
use Rattle.wasm_core.specs.declared.types.ImportKind.{ImportKind}
use Rattle.wasm_core.specs.declared.types.ImportKind.TheVariants as kinds
use Rattle.wasm_core.specs.declared.types.Memory.{Memory}
use Rattle.wasm_core.specs.types.FuncType.{FuncType}
use Rattle.glue_shared.specs.Names.{adapter_for, has_number, implemented}
use Rattle.glue_adapters.specs.Pairs.{import_type, is_fixed_import, is_fixed_kind}
use Rattle.claimed_modules.specs.Modules.{glue_module}
use Rattle.glue_check.specs.Unbuilt.{is_plain_memory, memory_of}
use Rattle.glue_check.proofs.OwnPairs.{IsDefinableBy, IsDefinedImport, entry_in, number_there, own_defined}
use Rattle.glue_check.proofs.Passed.{imports_bound, pairs_fit}
use Rattle.glue_names.proofs.Called.{number_in}
use Rattle.glue_context.specs.DefinedItems.{is_unpaired, takes_memory}
use Rattle.glue_context.specs.Edits.{has_start, with_shim, with_start_moved}
use Rattle.glue_context.specs.Foreign.{has_strings, is_strings, path_of}
use Rattle.glue_context.specs.FrameIn.{foreign_path, frame_in, is_first_memory, is_memory_of}
use Rattle.glue_context.proofs.Edited.{added_alone, shim_alone, written_imports}
use Rattle.glue_context.proofs.Entries.{any_entry, any_there, mapped_entry, mapped_some, one_of_any}
use Rattle.glue_context.proofs.OwnPaths.{own_is}

-- ---- what an import brings in stays

abbrev kind_of : Option Import → Option ImportKind
kind_of o = option_map (λ (i : Import). i.kind) o

one_kind : (imports : List (Option Import)) (place : ℕ) (path name : List ℕ)
    → map kind_of (slice_set imports place (renamed path name (slice_get imports place))) ≡ map kind_of imports
one_kind [] place path name = refl
one_kind (Some i ∷ is) zero path name = refl
one_kind (None ∷ is) zero path name = refl
one_kind (i ∷ is) (suc place) path name = ap (λ (xs : List (Option ImportKind)). kind_of i ∷ xs) (one_kind is place path name)

all_kinds : (m : Contents) (moves : List (ImportId × List ℕ × List ℕ)) → map kind_of (fold with_moved m moves).imports ≡ map kind_of m.imports
unfolding with_import
all_kinds m [] = refl
all_kinds m (e ∷ moves) = all_kinds (with_moved m e) moves ∙ one_kind m.imports e.0.0 e.1 e.2

moved_memories : (m : Contents) (moves : List (ImportId × List ℕ × List ℕ)) → (fold with_moved m moves).memories ≡ m.memories
unfolding with_import
moved_memories m [] = refl
moved_memories m (e ∷ moves) = moved_memories (with_moved m e) moves

start_memories : (b : Bool) (m : Contents) → (with_start_moved b m).memories ≡ m.memories
unfolding with_export without_start
start_memories b m = grind arith

-- ---- lists

-- two truths of which each gives the other
both_ways : (a b : Bool) → (a ≡ true → b ≡ true) → (b ≡ true → a ≡ true) → a ≡ b
both_ways true b h k = sym (h refl)
both_ways false true h k = k refl
both_ways false false h k = refl

-- where no pair gives a place an adapter, no pair has it
unpaired_away : (ps : List (ImportId × ℕ)) (place : ℕ) → adapter_for ps place ≡ None → has_number place (map (λ (pair : ImportId × ℕ). pair.0.0) ps) ≡ false
unpaired_away [] place h = refl
unpaired_away (p ∷ ps) place h = let rest = unpaired_away ps place in grind (arith, rest)

-- the modules of other imports are those that have another module than the glue file's
same_modules : (own : List ℕ) (glue : List ℕ) (from : ℕ) (paths : List (Option (List ℕ)))
    → ((k : ℕ) (path : List ℕ) → entry_at paths k ≡ Some path → has_number (from + k) own ≡ bytes_eq path glue)
    → modules_from own from paths ≡ flat_map (foreign_path glue) paths
same_modules own glue from [] h = refl
same_modules own glue from (o ∷ os) h =
    ap (λ (ms : List (List ℕ)). module_at own from o ++ ms) (same_modules own glue (from + 1) os (λ k path e.
    let later : from + suc k ≡ from + 1 + k = omega arith in ap (λ (n : ℕ). has_number n own) (sym later) ∙ h (suc k) path e))
    ∙ ap (λ (ms : List (List ℕ)). ms ++ flat_map (foreign_path glue) os) (first o (h zero))
  where
    first : (o : Option (List ℕ)) → ((path : List ℕ) → o ≡ Some path → has_number (from + 0) own ≡ bytes_eq path glue) → module_at own from o ≡ foreign_path glue o
    first None h = refl
    first (Some path) h =
        let here : from + 0 ≡ from = omega arith in
        ap (λ (b : Bool). cond (b || is_strings path) [] (path ∷ [])) (ap (λ (n : ℕ). has_number n own) (sym here) ∙ h path refl)

-- ---- the first memory

-- a plain memory that the glue file defines whatever is described is the first one
first_there : (l : Lowered) (name : List ℕ) (kind : ImportKind) → is_plain_memory (memory_of l.«module» kind) ≡ true → is_fixed_kind l name kind ≡ true
    → is_first_memory l.«module».memories kind ≡ true
first_there l name (kinds.Memory id) plain fixed = by (entry_at l.«module».memories id.0) plain
  where
    by : (o : Option Memory) → is_plain_memory o ≡ true → (is_some o && not (list_any is_some (take id.0 l.«module».memories))) ≡ true
    by None plain = absurd (true≢false (sym plain))
    by (Some memory) plain = fixed
first_there l name other plain fixed = absurd (true≢false (sym plain))

-- a memory is no function
no_type : (m : Contents) (memories : List (Option Memory)) (kind : ImportKind) (ty : FuncType) → is_first_memory memories kind ≡ true → import_type m kind ≡ Some ty → ⊥
no_type m memories (kinds.Memory id) ty first typed = cc
no_type m memories other ty first typed = true≢false (sym first)

-- ---- the frame

abbrev framed : Bool → List (List ℕ) → Bool → Frame
framed memory modules strings = record { memory = memory; modules = modules; strings = strings }

module _ (f : FileFlags) (s : Settings) (l : Lowered) (whole : unbuilt f s l ≡ None) (passed : verdict s l ≡ None) where
  abbrev own : List ℕ
  own = own_imports s l.«module» l.wit l.aux

  abbrev glue : List ℕ
  glue = glue_module s.stem

  abbrev written : Contents
  written = rewritten s l

  abbrev moved : Contents
  moved = fold with_moved l.«module» (edits_of s l).imports

  written_kinds : map kind_of written.imports ≡ map kind_of l.«module».imports
  written_kinds = ap (map kind_of) (sym (written_imports s l)) ∙ all_kinds l.«module» (edits_of s l).imports

  written_memories : written.memories ≡ l.«module».memories
  written_memories =
      let extended = fold with_added moved (edits_of s l).exports in
      start_memories (has_start l.«module») (with_shim (edits_of s l).shim extended)
      ∙ (shim_alone extended (edits_of s l).shim).2
      ∙ (added_alone moved (edits_of s l).exports).2
      ∙ moved_memories l.«module» (edits_of s l).imports

  -- what the import at a place brings in
  same_kind : (k : ℕ) → kind_of (entry_at written.imports k) ≡ kind_of (entry_at l.«module».imports k)
  same_kind k =
      sym (mapped_entry (λ (i : Import). i.kind) written.imports k) ∙ ap (λ (ks : List (Option ImportKind)). entry_at ks k) written_kinds
      ∙ mapped_entry (λ (i : Import). i.kind) l.«module».imports k

  -- it is an own one exactly where it comes from the glue file's module
  own_at : (k : ℕ) (j : Import) → entry_at written.imports k ≡ Some j → has_number k own ≡ bytes_eq j.«module» glue
  own_at k j e = own_is f s l whole passed k j.«module» (mapped_entry (λ (i : Import). i.«module») written.imports k ∙ ap path_of e)

  abbrev is_taken : Option Import → Bool
  is_taken = is_memory_of glue written.memories

  -- an own import for which no adapter stands brings in the first memory
  taken_there : takes_memory s l ≡ true → list_any is_taken written.imports ≡ true
  taken_there h =
      let r = one_of_any (is_unpaired l.wit.implements) own h in
      let d = own_defined f s l whole passed r.0 r.1 in
      by r.0 r.1 d (adapter_for l.wit.implements r.0) refl r.2 d.kind
    where
      by : (k : ℕ) → IsIn k own → (d : IsDefinedImport l k) → (o : Option ℕ) → adapter_for l.wit.implements k ≡ o → not (is_some o) ≡ true
          → IsDefinableBy l k d.«import» o → list_any is_taken written.imports ≡ true
      by k at d (Some adapter) q none pair = absurd (true≢false (sym none))
      by k at d None q none plain =
          let fixed : is_fixed_import l (entry_at l.«module».imports k) ≡ true = fixed_at (is_fixed_import l (entry_at l.«module».imports k)) refl in
          let first = first_there l d.«import».name d.«import».kind plain (sym (ap (is_fixed_import l) d.stands) ∙ fixed) in
          let j = mapped_some (λ (i : Import). i.kind) (entry_at written.imports k) d.«import».kind (same_kind k ∙ ap kind_of d.stands) in
          let mine = sym (own_at k j.0 j.1) ∙ number_there k own at in
          any_there is_taken written.imports (Some j.0) (entry_in written.imports k j.0 j.1) (rw (mine, j.2, written_memories) first)
        where
          fixed_at : (b : Bool) → is_fixed_import l (entry_at l.«module».imports k) ≡ b → b ≡ true
          fixed_at true p = refl
          fixed_at false p =
              absurd (true≢false (sym (number_there k (implemented l.wit) (imports_bound s l passed k at p)) ∙ unpaired_away l.wit.implements k q))

  -- and one that brings in the first memory is one for which no adapter stands
  there_taken : list_any is_taken written.imports ≡ true → takes_memory s l ≡ true
  there_taken h =
      let r = any_entry is_taken refl written.imports h in
      let both = and_parts (bytes_eq r.1.«module» glue) (is_first_memory written.memories r.1.kind) r.3 in
      let at = number_in r.0 own (own_at r.0 r.1 r.2 ∙ both.0) in
      let d = own_defined f s l whole passed r.0 at in
      let kind : r.1.kind ≡ d.«import».kind =
      same_Some r.1.kind d.«import».kind (ap kind_of (sym r.2) ∙ same_kind r.0 ∙ ap kind_of d.stands) in
      any_there (is_unpaired l.wit.implements) own r.0 at
      (by r.0 d (adapter_for l.wit.implements r.0) d.kind (subst (λ (k : ImportKind). is_first_memory written.memories k ≡ true) kind both.1))
    where
      by : (k : ℕ) (d : IsDefinedImport l k) (o : Option ℕ) → IsDefinableBy l k d.«import» o → is_first_memory written.memories d.«import».kind ≡ true
          → not (is_some o) ≡ true
      by k d None plain first = refl
      by k d (Some adapter) pair first =
          let fit = pairs_fit s l passed (record { 0 = k }, adapter) pair in
          let same : d.«import» ≡ fit.«import» = same_Some d.«import» fit.«import» (sym d.stands ∙ fit.stands) in
          absurd (no_type l.«module» written.memories d.«import».kind fit.ty first
          (ap (λ (i : Import). import_type l.«module» i.kind) same ∙ fit.typed))

  pub frame_read : frame_of s l ≡ frame_in s.stem (rewritten s l)
  frame_read =
      let paths = map path_of written.imports in
      let memory : takes_memory s l ≡ list_any is_taken written.imports = both_ways (takes_memory s l) (list_any is_taken written.imports) taken_there there_taken in
      let modules : foreign_modules s l ≡ flat_map (foreign_path glue) paths = same_modules own glue 0 paths (λ k path e.
      let here : 0 + k ≡ k = omega arith in ap (λ (n : ℕ). has_number n own) here ∙ own_is f s l whole passed k path e) in
      ap (λ (b : Bool). framed b (foreign_modules s l) (has_strings s l)) memory
      ∙ ap (λ (ms : List (List ℕ)). framed (list_any is_taken written.imports) ms (has_strings s l)) modules
