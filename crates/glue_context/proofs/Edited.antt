-- The module that is written: what is changed names its entries, its exports stay, those that are added, the shim and a start function are
-- further ones, and an import that moves keeps its name.
use Rattle.glue_context.proofs.Common.{◌≡◌, ℕ, List, [], ◌∷◌, ◌++◌, map, Bool, true, false, true≢false, refl, sym, ap, ◌∙◌, fold, flat_map, All, Option, Some, None, is_some, length, option_map, filter_map, filter_map-append, append-nil, All-nil, All-head, All-tail, export_name, arith, common_steps, Contents, Import, ImportId, Settings, Lowered, own_imports, entry_at, export_names, with_moved, AreFit, move_of, edits_of, rewritten, with_import, some_of, with_added, NameMap, IsIn, in_left, in_right, subst, inl, inr}
use Rattle.std.proofs.Common.{append_assoc}
use Rattle.std.specs.Prelude.{◌≢◌, cond, slice_get, option_and_then}
use Rattle.std.specs.List.{cons_option, position_from}
use Rattle.std.proofs.lemmas.List.Elements.{All-append, All-cons, All-weaker}
use Rattle.std.proofs.lemmas.List.Sums.{fold-append}
use Rattle.std.proofs.lemmas.Option.{same_Some, slice_get_cases}
use Rattle.wasm_core.specs.Contents.{IsEntry, IsLive}
use Rattle.wasm_core.specs.Edits.{with_export, with_func, without_start, IsLiveItem, func_added, is_entry_alike}
use Rattle.wasm_core.specs.entries.Export.{Export}
use Rattle.wasm_core.specs.body.Body.{Body}
use Rattle.wasm_core.specs.ids.FuncId.{FuncId}
use Rattle.wasm_core.specs.ids.GlobalId.{GlobalId}
use Rattle.wasm_core.specs.entries.ExportItem.{ExportItem}
use Rattle.wasm_core.specs.entries.ExportItem.TheVariants as items
use Rattle.wasm_core.specs.entries.ExportItem.TheVariants.{Func}
use Rattle.glue_shared.specs.declared.import.JsImportName.{JsImportName}
use Rattle.glue_shared.specs.Names.{has_number}
use Rattle.glue_shared.specs.Roots.{is_entry, is_live_item}
use Rattle.values.specs.Map.{look_up}
use Rattle.glue_steps.specs.Resolving.{export_named, item_order, live, or_empty}
use Rattle.glue_steps.specs.Room.{has_stack}
use Rattle.glue_lines.specs.Grouped.{source_of}
use Rattle.glue_naming.specs.Imported.{called_names}
use Rattle.glue_names.specs.Naming.{shim_name, start_name}
use Rattle.printed_adapters.specs.Printed.{uses_shim}
use Rattle.glue_naming.specs.Handed.{handed_pair, handed_imports}
use Rattle.taken_items.specs.Asked.{asked_items}
use Rattle.taken_items.specs.ItemNames.{added_exports, item_map, item_names}
use Rattle.taken_items.proofs.ItemNames.{IsGivenAs, added_live, item_named, names_with_added}
use Rattle.glue_targets.proofs.FixedTexts.{call_takes}
use Rattle.glue_context.specs.Defined.{IsExportOf}
use Rattle.glue_context.specs.Edits.{has_start, shim_body, shim_type, HasStart, with_shim, with_start_exported, with_start_moved}
use Rattle.glue_context.specs.Rewritten.{handed_move, shim_global}

-- what no change of a list takes away, all of them leave
fold_keeps : {A : Type 0} (P : Contents → Type 0) (Q : A → Type 0) (f : Contents → A → Contents)
    → ((m : Contents) (x : A) → Q x → P m → P (f m x)) → (xs : List A) (m : Contents) → All Q xs → P m → P (fold f m xs)
fold_keeps P Q f step [] m all h = h
fold_keeps P Q f step (x ∷ xs) m all h = fold_keeps P Q f step xs (f m x) (All-tail Q x xs all) (step m x (All-head Q x xs all) h)

-- the name of the import at a place
abbrev name_at : List (Option Import) → ℕ → Option (List ℕ)
name_at imports k = option_map (λ (i : Import). i.name) (entry_at imports k)

named : (o : Option Import) (name : List ℕ) → option_map (λ (i : Import). i.name) o ≡ Some name → (i : Import) × (o ≡ Some i) × (i.name ≡ name)
named None name h = cc
named (Some i) name h = (i, refl, same_Some i.name name h)

-- an import that is to move stands, and keeps its name
are_moves : (stem : List ℕ) (imports : List (Option Import)) (places : List ℕ) → All (λ e. name_at imports e.0.0 ≡ Some e.2) (filter_map (move_of stem imports) places)
are_moves stem imports [] = All-nil (λ e. name_at imports e.0.0 ≡ Some e.2)
are_moves stem imports (place ∷ places) = let rest = are_moves stem imports places in grind (arith, common_steps)

-- ---- imports that become described names

module _ (imports : List (Option Import)) where
  -- such an import stands
  handed_live : (handed : List (ImportId × JsImportName)) → All (λ e. IsLive imports e.0.0) (filter_map (handed_move imports) handed)
  handed_live [] = All-nil (λ e. IsLive imports e.0.0)
  handed_live (h ∷ hs) = by (slice_get imports h.0.0) refl (source_of h.1) (filter_map (handed_move imports) hs) (handed_live hs)
    where
      by : (o : Option (Option Import)) → slice_get imports h.0.0 ≡ o → (source : Option (List ℕ × List ℕ)) (rest : List (ImportId × List ℕ × List ℕ))
          → All (λ e. IsLive imports e.0.0) rest
          → All (λ e. IsLive imports e.0.0) (cons_option (option_and_then (λ (i : Import). option_map (λ (s : List ℕ × List ℕ). (h.0, s.0, s.1)) source) (live o)) rest)
      by None q source rest r = r
      by (Some None) q source rest r = r
      by (Some (Some i)) q None rest r = r
      by (Some (Some i)) q (Some s) rest r = All-cons (λ e. IsLive imports e.0.0) (h.0, s.0, s.1) rest (rw q tt) r

  module _ (k : ℕ) where
    -- an import is none at a place
    abbrev IsOther : ImportId × JsImportName → Type 0
    IsOther h = h.0.0 ≢ k

    abbrev MovesOther : ImportId × List ℕ × List ℕ → Type 0
    MovesOther e = e.0.0 ≢ k

    handed_away : (handed : List (ImportId × JsImportName)) → All IsOther handed → All MovesOther (filter_map (handed_move imports) handed)
    handed_away [] h = All-nil MovesOther
    handed_away (h ∷ hs) a = by (entry_at imports h.0.0) (source_of h.1) (filter_map (handed_move imports) hs)
        (handed_away hs (All-tail IsOther h hs a))
      where
        by : (o : Option Import) (source : Option (List ℕ × List ℕ)) (rest : List (ImportId × List ℕ × List ℕ)) → All MovesOther rest
            → All MovesOther (cons_option (option_and_then (λ (i : Import). option_map (λ (s : List ℕ × List ℕ). (h.0, s.0, s.1)) source) o) rest)
        by None source rest r = r
        by (Some i) None rest r = r
        by (Some i) (Some s) rest r = All-cons MovesOther (h.0, s.0, s.1) rest (All-head IsOther h hs a) r

-- what adapters call of imports that the glue file doesn't define is away from one that it defines
module _ (own : List ℕ) (l : Lowered) (k : ℕ) (mine : has_number k own ≡ true) where
  abbrev NotMine : ImportId × JsImportName → Type 0
  NotMine h = h.0.0 ≢ k

  names_away : (pair : ImportId × ℕ) (names : List JsImportName) → pair.0.0 ≢ k → All NotMine (map (λ (n : JsImportName). (pair.0, n)) names)
  names_away pair [] other = All-nil NotMine
  names_away pair (n ∷ names) other =
      All-cons NotMine (pair.0, n) (map (λ (n : JsImportName). (pair.0, n)) names) other (names_away pair names other)

  pair_away : (pair : ImportId × ℕ) → All NotMine (handed_pair own l pair)
  pair_away pair = by (has_number pair.0.0 own) refl
    where
      by : (b : Bool) → has_number pair.0.0 own ≡ b → All NotMine (cond b [] (map (λ (n : JsImportName). (pair.0, n)) (called_names l pair.1)))
      by true q = All-nil NotMine
      by false q = names_away pair (called_names l pair.1) (λ same. true≢false (sym mine ∙ ap (λ (n : ℕ). has_number n own) (sym same) ∙ q))

  pairs_away : (pairs : List (ImportId × ℕ)) → All NotMine (flat_map (handed_pair own l) pairs)
  pairs_away [] = All-nil NotMine
  pairs_away (pair ∷ pairs) = All-append NotMine (handed_pair own l pair) (flat_map (handed_pair own l) pairs) (pair_away pair) (pairs_away pairs)

-- ---- exports that are added

entry_from : {A : Type 0} (o : Option (Option A)) → is_entry o ≡ true → IsEntry o
entry_from (Some (Some x)) h = tt
entry_from (Some None) h = absurd (true≢false (sym h))
entry_from None h = absurd (true≢false (sym h))

-- an item that passes the test is an entry
pub item_from : (m : Contents) (item : ExportItem) → is_live_item m item ≡ true → IsLiveItem m item
item_from m (items.Func id) h = entry_from (slice_get m.funcs id.0) h
item_from m (items.Table id) h = entry_from (slice_get m.tables id.0) h
item_from m (items.Memory id) h = entry_from (slice_get m.memories id.0) h
item_from m (items.Global id) h = entry_from (slice_get m.globals id.0) h
item_from m (items.Tag id) h = entry_from (slice_get m.tags id.0) h

all_by : {A : Type 0} (P : A → Type 0) (xs : List A) → ((x : A) → IsIn x xs → P x) → All P xs
all_by P [] h = All-nil P
all_by P (x ∷ xs) h = All-cons P x xs (h x (inl refl)) (all_by P xs (λ y at. h y (inr at)))

-- they are the last ones, and nothing else changes
pub added_alone : (m : Contents) (added : List (List ℕ × ExportItem)) → ((fold with_added m added).imports ≡ m.imports) × ((fold with_added m added).start ≡ m.start)
    × ((fold with_added m added).memories ≡ m.memories)
unfolding with_export
added_alone m [] = (refl, refl, refl)
added_alone m (e ∷ added) = added_alone (with_added m e) added

added_names : (m : Contents) (added : List (List ℕ × ExportItem))
    → export_names m ++ map (λ (e : List ℕ × ExportItem). e.0) added ≡ export_names (fold with_added m added)
unfolding with_export
added_names m [] = append-nil (export_names m)
added_names m (e ∷ added) =
    sym (append_assoc (export_names m) (e.0 ∷ []) (map (λ (x : List ℕ × ExportItem). x.0) added))
    ∙ ap (λ (ns : List (List ℕ)). ns ++ map (λ (x : List ℕ × ExportItem). x.0) added)
    (sym (filter_map-append export_name m.exports (Some (record { name = e.0; item = e.1 }) ∷ [])))
    ∙ added_names (with_added m e) added

-- and each stands
added_stands : (m : Contents) (added : List (List ℕ × ExportItem)) (x : Option Export) → IsIn x m.exports → IsIn x (fold with_added m added).exports
unfolding with_export
added_stands m [] x at = at
added_stands m (e ∷ added) x at =
    added_stands (with_added m e) added x (in_left x m.exports (Some (record { name = e.0; item = e.1 }) ∷ []) at)

added_there : (m : Contents) (added : List (List ℕ × ExportItem)) (e : List ℕ × ExportItem) → IsIn e added
    → IsIn (Some (record { name = e.0; item = e.1 })) (fold with_added m added).exports
unfolding with_export
added_there m [] e at = absurd at
added_there m (x ∷ added) e (inl same) =
    added_stands (with_added m x) added (Some (record { name = e.0; item = e.1 }))
    (in_right (Some (record { name = e.0; item = e.1 })) m.exports (Some (record { name = x.0; item = x.1 }) ∷ [])
    (inl (ap (λ (y : List ℕ × ExportItem). Some (record { name = y.0; item = y.1 })) same)))
added_there m (x ∷ added) e (inr at) = added_there (with_added m x) added e at

-- ---- the shim

-- the name of its export, where there is one
abbrev pub shim_export : Option GlobalId → List (List ℕ)
shim_export None = []
shim_export (Some g) = shim_name ∷ []

-- a function that is added leaves what isn't a function or a type
func_alone : (place : Option ℕ) (body : Body) (m : Contents) → (let n = func_added shim_type place shim_name body m in
    (n.imports ≡ m.imports) × (n.start ≡ m.start) × (n.memories ≡ m.memories) × (n.exports ≡ m.exports))
func_alone None body m = (refl, refl, refl, refl)
func_alone (Some place) body m = (refl, refl, refl, refl)

module _ (m : Contents) where
  -- the module with the function, before that is exported
  abbrev with_mover : GlobalId → Contents
  with_mover g = func_added shim_type (position_from (is_entry_alike shim_type) 0 m.types) shim_name (shim_body g.0) m

  abbrev mover_export : Option Export
  mover_export = Some (record { name = shim_name; item = Func (record { 0 = length m.funcs }) })

  -- imports, the start function and memories stay
  pub shim_alone : (g : Option GlobalId) → ((with_shim g m).imports ≡ m.imports) × ((with_shim g m).start ≡ m.start) × ((with_shim g m).memories ≡ m.memories)
  unfolding with_export with_func
  shim_alone None = (refl, refl, refl)
  shim_alone (Some g) = let f = func_alone (position_from (is_entry_alike shim_type) 0 m.types) (shim_body g.0) m in (f.0, f.1, f.2)

  mover_exports : (g : GlobalId) → (with_mover g).exports ≡ m.exports
  mover_exports g = (func_alone (position_from (is_entry_alike shim_type) 0 m.types) (shim_body g.0) m).3

  -- exports stay, and its own is behind them
  shim_names : (g : Option GlobalId) → export_names m ++ shim_export g ≡ export_names (with_shim g m)
  unfolding with_export with_func
  shim_names None = append-nil (export_names m)
  shim_names (Some g) =
      ap (λ (es : List (Option Export)). filter_map export_name es ++ shim_name ∷ []) (sym (mover_exports g))
      ∙ sym (filter_map-append export_name (with_mover g).exports (mover_export ∷ []))

  shim_stands : (g : Option GlobalId) (x : Option Export) → IsIn x m.exports → IsIn x (with_shim g m).exports
  unfolding with_export with_func
  shim_stands None x at = at
  shim_stands (Some g) x at = in_left x (with_mover g).exports (mover_export ∷ []) (subst (IsIn x) (sym (mover_exports g)) at)

-- where the function of an adapter takes room, and a global is there for it, the shim is exported
pub shim_there : (s : Settings) (l : Lowered) → uses_shim s l ≡ true → has_stack l ≡ true → IsIn shim_name (shim_export (shim_global s l))
shim_there s l uses stacked =
    subst (λ (b : Bool). IsIn shim_name (shim_export (cond b l.aux.stack_pointer None))) (sym uses) (by l.aux.stack_pointer stacked)
  where
    by : (o : Option GlobalId) → is_some (option_and_then (λ (g : GlobalId). entry_at l.«module».globals g.0) o) ≡ true → IsIn shim_name (shim_export o)
    by None h = absurd (true≢false (sym h))
    by (Some g) h = inl refl

-- ---- the start function

-- a start function that becomes an export leaves the others
start_stands : (b : Bool) (m : Contents) (x : Option Export) → IsIn x m.exports → IsIn x (with_start_moved b m).exports
unfolding with_export without_start
start_stands false m x at = at
start_stands true m x at = by m.start
  where
    by : (o : Option FuncId) → IsIn x (with_start_exported o m).exports
    by None = at
    by (Some f) = in_left x m.exports (Some (record { name = start_name; item = Func f }) ∷ []) at

-- what is changed names entries
pub edits_fit : (s : Settings) (l : Lowered) → AreFit (edits_of s l) l.«module»
edits_fit s l =
    let imports = l.«module».imports in
    let own = filter_map (move_of s.stem imports) (own_imports s l.«module» l.wit l.aux) in
    let moves = are_moves s.stem imports (own_imports s l.«module» l.wit l.aux) in
    let live : All (λ e. IsLive imports e.0.0) own = All-weaker (λ e. name_at imports e.0.0 ≡ Some e.2) (λ e. IsLive imports e.0.0)
    (λ e q. grind (arith, q)) own moves in
    let start : HasStart (has_start l.«module») l.«module» = grind arith in record {
      imports = All-append (λ e. IsLive imports e.0.0) own (filter_map (handed_move imports) (handed_imports s l)) live (handed_live imports (handed_imports s l));
      exports = all_by (λ e. IsLiveItem l.«module» e.1) (added_exports s l) (λ e at. item_from l.«module» e.1 (added_live s l e at));
      start = start;
    }

-- imports move, and nothing else changes
moved_alone : (m : Contents) (moves : List (ImportId × List ℕ × List ℕ))
    → ((fold with_moved m moves).exports ≡ m.exports) × ((fold with_moved m moves).start ≡ m.start)
unfolding with_import
moved_alone m [] = (refl, refl)
moved_alone m (e ∷ moves) = moved_alone (with_moved m e) moves

-- imports stay where a start function becomes an export
pub start_imports : (b : Bool) (m : Contents) → m.imports ≡ (with_start_moved b m).imports
unfolding with_export without_start
start_imports b m = grind arith

-- and exports stay before it
start_exports : (b : Bool) (m : Contents) → (b ≡ true → is_some m.start ≡ true) → export_names m ++ call_takes b ≡ export_names (with_start_moved b m)
unfolding with_export without_start
start_exports true m h =
    let f = some_of m.start (h refl) in
    rw f.1 (sym (filter_map-append export_name m.exports (Some (record { name = start_name; item = Func f.0 }) ∷ [])))
start_exports false m h = append-nil (export_names m)

-- a start function that stands is named
start_named : (m : Contents) → has_start m ≡ true → is_some m.start ≡ true
start_named m h = grind arith

module _ (s : Settings) (l : Lowered) where
  -- the module with its own imports moved
  abbrev moved : Contents
  moved = fold with_moved l.«module» (edits_of s l).imports

  -- and with the exports that are added
  abbrev extended : Contents
  extended = fold with_added moved (added_exports s l)

  -- and with the shim, where functions call it
  abbrev shimmed : Contents
  shimmed = with_shim (shim_global s l) extended

  -- its imports are those of the written one
  pub written_imports : moved.imports ≡ (rewritten s l).imports
  written_imports =
      sym (added_alone moved (added_exports s l)).0
      ∙ sym (shim_alone extended (shim_global s l)).0
      ∙ start_imports (has_start l.«module») shimmed

  shimmed_start : shimmed.start ≡ l.«module».start
  shimmed_start =
      (shim_alone extended (shim_global s l)).1
      ∙ (added_alone moved (added_exports s l)).1
      ∙ (moved_alone l.«module» (edits_of s l).imports).1

  -- the names of its last exports: that of the shim, and the one that the call of the start function takes
  abbrev pub last_exports : List (List ℕ)
  last_exports = shim_export (shim_global s l) ++ call_takes (has_start l.«module»)

  -- its exports are those that the collected module has, those that are added, and behind them these
  pub rewritten_exports : names_with_added s l ++ last_exports ≡ export_names (rewritten s l)
  rewritten_exports =
      let same : export_names moved ≡ export_names l.«module» = ap (filter_map export_name) (moved_alone l.«module» (edits_of s l).imports).0 in
      let added = map (λ (e : List ℕ × ExportItem). e.0) (added_exports s l) in
      let shim = shim_export (shim_global s l) in
      let start = call_takes (has_start l.«module») in
      ap (λ (ns : List (List ℕ)). (ns ++ added) ++ (shim ++ start)) (sym same)
      ∙ ap (λ (ns : List (List ℕ)). ns ++ (shim ++ start)) (added_names moved (added_exports s l))
      ∙ sym (append_assoc (export_names extended) shim start)
      ∙ ap (λ (ns : List (List ℕ)). ns ++ start) (shim_names extended (shim_global s l))
      ∙ start_exports (has_start l.«module») shimmed (λ h. ap is_some shimmed_start ∙ start_named l.«module» h)

  -- an item that is asked for is exported under the name that it goes by
  pub item_exported : (m : NameMap) → m.wasm ≡ item_map (item_names s l) → (item : ExportItem) → IsIn item (asked_items s l)
      → IsExportOf (rewritten s l) (export_named m (Some item)) item
  item_exported m names item at =
      let n = item_named s l item at in
      by n.0 (ap or_empty (ap (λ (es : List (ExportItem × List ℕ)). look_up item_order es item) names ∙ n.1.0)) n.1.1
    where
      same_exports : moved.exports ≡ l.«module».exports
      same_exports = (moved_alone l.«module» (edits_of s l).imports).0

      stays : (x : Option Export) → IsIn x extended.exports → IsIn x (rewritten s l).exports
      stays x at = start_stands (has_start l.«module») shimmed x (shim_stands extended (shim_global s l) x at)

      by : (name : List ℕ) → export_named m (Some item) ≡ name → IsGivenAs s l item name → IsExportOf (rewritten s l) (export_named m (Some item)) item
      by name q (inl h) = record {
        «export» = h.«export»;
        stands = stays (Some h.«export»)
            (added_stands moved (added_exports s l) (Some h.«export») (subst (IsIn (Some h.«export»)) (sym same_exports) h.among));
        named = h.named ∙ sym q;
        gives = h.gives;
      }
      by name q (inr there) = record {
        «export» = record { name = name; item = item };
        stands = stays (Some (record { name = name; item = item })) (added_there moved (added_exports s l) (name, item) there);
        named = sym q;
        gives = refl;
      }

  -- an import that the glue file defines keeps its name
  pub moved_keeps : (k : ℕ) (i : Import) → has_number k (own_imports s l.«module» l.wit l.aux) ≡ true → entry_at l.«module».imports k ≡ Some i
      → (j : Import) × (entry_at (rewritten s l).imports k ≡ Some j) × (j.name ≡ i.name)
  unfolding with_import
  moved_keeps k i mine is =
      let imports = l.«module».imports in
      let places = own_imports s l.«module» l.wit l.aux in
      let own = filter_map (move_of s.stem imports) places in
      let handed = filter_map (handed_move imports) (handed_imports s l) in
      let first : name_at (fold with_moved l.«module» own).imports k ≡ Some i.name =
      fold_keeps (λ n. name_at n.imports k ≡ Some i.name) (λ e. name_at imports e.0.0 ≡ Some e.2) with_moved
      (λ n e q h. grind (arith, common_steps, slice_get_cases)) own l.«module» (are_moves s.stem imports places) (rw is refl) in
      let both : name_at (fold with_moved (fold with_moved l.«module» own) handed).imports k ≡ Some i.name =
      fold_keeps (λ n. name_at n.imports k ≡ Some i.name) (λ e. e.0.0 ≢ k) with_moved
      (λ n e q h. grind (arith, common_steps, slice_get_cases)) handed (fold with_moved l.«module» own)
      (handed_away imports k (handed_imports s l) (pairs_away places l k mine l.wit.implements)) first in
      named (entry_at (rewritten s l).imports k) i.name (
      ap (λ (is : List (Option Import)). name_at is k) (sym written_imports)
      ∙ ap (λ (m : Contents). name_at m.imports k) (fold-append with_moved l.«module» own handed) ∙ both)
