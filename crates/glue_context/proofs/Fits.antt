-- What the check of a description gives of the functions of adapters: they belong into the file, and what the items of exports declare and publish.
use Rattle.glue_context.proofs.Common.{◌≡◌, ℕ, List, [], ◌∷◌, ◌++◌, Bool, true, false, true≢false, Some, refl, ◌∙◌, subst, arith, rules, AllByRecursion, codes, list_all, list_any, filter_map-append, AreAmong, AreApart, IsIn, in_left, in_right, Item, bound_name, bound_in, used_in, hosted_in, wasm_in, spliced_in, is_export_key, Context, Belongs, IsFrame, is_exported, Step, AuxExport, AuxImport, Settings, NameMap, Lowered, host_names, export_names, js_import, names_of, declared_name, Form, IsFunctionOf, declare_item, declaration_front, declaration_back, IsThere, IsDescribed, HasSteps, HOSTS, map, AreFunctionItems, declaration_words, note_lines, inl, inr}
use Rattle.std.proofs.Common.{append_assoc, ap, sym}
use Rattle.std.specs.Prelude.{filter, ◌&&◌, not}
use Rattle.std.proofs.lemmas.{List.Folds.list_any-append, List.Folds.list_all-append}
use Rattle.glue_words.specs.declared.word.Word.{Word}
use Rattle.glue_words.specs.declared.word.Word.TheVariants as w
use Rattle.glue_words.specs.declared.key.TheConstants as key
use Rattle.glue_words.specs.Words.{space}
use Rattle.glue_words.specs.Ident.{is_ident}
use Rattle.glue_words.specs.Limits.{is_computed}
use Rattle.glue_words.specs.Spacing.{is_wasm}
use Rattle.std.proofs.lemmas.Bool.{and_from}
use Rattle.glue_words.proofs.Among.{apart_none, among_both, among_by, among_in, among_left, among_trans}
use Rattle.glue_tree.proofs.Fit.{is_inner}
use Rattle.glue_targets.specs.RoleWords.{export_first}
use Rattle.glue_exports.specs.Printed.{exported_item}
use Rattle.glue_exports.proofs.Linkage.{export_belongs, noted_belong, noted_binds, noted_exported, noted_unexported}
use Rattle.glue_public.specs.Described.{FunctionItems}
use Rattle.glue_public.specs.Public.{IsDeclared}
use Rattle.glue_targets.proofs.FixedTexts.{call_takes}
use Rattle.glue_operands.specs.Spelling.{path_words, chained_words}
use Rattle.glue_operands.proofs.Standing.{step_fit}
use Rattle.glue_binding.proofs.Outside.{exports_words, outside_words, outside_of, passed_none}
use Rattle.glue_steps.specs.declared.step.Step.TheVariants.{CallExport, CallImport, ToUnsigned64, CallHelper, IndexFromBorrow, UnwrapResult, PassToMemory, DeferFree, CopyOut, ReturnPointer, LoadReturn, StoreReturn, MakeClosure, IndexOf, ItemAt}
use Rattle.glue_steps.specs.Room.{has_stack}
use Rattle.glue_operands.proofs.Parts.{outer_parts, outer_expression, expression_none, parts_declare}
use Rattle.glue_operands.proofs.Paths.{TellsKeys, path_tells, property_tells, chained_tells}
use Rattle.glue_scope.specs.Properties.{property_parts}
use Rattle.std.specs.Prelude.{Option, None, is_some}
use Rattle.values.specs.Map.{look_up}
use Rattle.wasm_core.specs.entries.ExportItem.{ExportItem}
use Rattle.glue_imports.specs.Given.{given_item, gives_item}
use Rattle.glue_steps.specs.Resolving.{export_named, given_of, item_order, or_empty}
use Rattle.taken_items.specs.ItemNames.{added_exports, item_map, item_names}
use Rattle.taken_items.proofs.ItemNames.{given_listed, item_asked, item_named, names_with_added}
use Rattle.glue_shared.specs.Names.{entry_of, has_number}
use Rattle.glue_shared.specs.declared.import.JsImportName.{JsImportName}
use Rattle.glue_imports.specs.declared.part.Part.{Part}
use Rattle.glue_imports.specs.declared.part.Part.TheVariants as part
use Rattle.glue_imports.specs.declared.part.Expression.{Expression}
use Rattle.glue_binding.proofs.Linked.{around_apart, StandsBeside, bound_local, bound_resolved, bound_keyed, bound_alone, bound_exported, bound_inner, bound_binds}
use Rattle.helper_table.specs.Laws.{any_in}
use Rattle.helper_table.specs.declared.parts.HelperParts.{HelperParts}
use Rattle.helper_table.proofs.Held.{base_names, free_names}
use Rattle.helper_table.proofs.HeldItems.{among_test}
use Rattle.helper_table.proofs.ListedNames.{bound_listed}
use Rattle.helper_table.proofs.Supplied.{base_among, provided_in, provided_names}
use Rattle.glue_names.specs.Handed.{own_callees}
use Rattle.glue_names.specs.Naming.{shim_name}
use Rattle.printed_adapters.specs.Printed.{uses_shim}
use Rattle.glue_check.proofs.Steps.{IsClosureOf, IsHelperOf, IsListOf, IsNamedFunction}
use Rattle.glue_names.proofs.Globals.{in_flat}
use Rattle.glue_context.specs.DefinedItems.{takes_memory}
use Rattle.glue_context.specs.Keys.{described_keys, import_properties, imported_properties, other_properties}
use Rattle.glue_context.specs.Edits.{has_start}
use Rattle.glue_context.specs.Parts.{are_few, helper_parts}
use Rattle.glue_context.specs.Rewritten.{shim_global}
use Rattle.glue_context.proofs.Declared.{all_found}
use Rattle.glue_context.proofs.Edited.{last_exports, shim_export, shim_there}
use Rattle.glue_context.proofs.ListedFacts.{list_chosen, list_names}
use Rattle.glue_context.proofs.Provided.{function_known, helper_provided, listed_apart, listed_ident}
use Rattle.glue_context.proofs.ExpressionFits.{IsWell, IsNamedWell, expression_fit}
use Rattle.glue_context.proofs.ExpressionNames.{HasPart, HasExpression, HasLoaded, HasName, used_hosts, expression_has}

-- ---- what steps bring along

-- no step declares a name of the file
step_binds : (step : Step) → bound_in (outside_words step) ≡ []
step_binds (CallImport adapter n has_result e) = expression_none bound_name parts_declare e
step_binds (PassToMemory helper exports optional) = passed_none bound_name (λ n. refl) (λ n. refl) helper exports optional
step_binds other = refl

binds_none : (steps : List Step) → bound_in (outside_of steps) ≡ []
binds_none [] = refl
binds_none (step ∷ steps) =
    filter_map-append bound_name (outside_words step) (outside_of steps)
    ∙ ap (λ (ns : List (List ℕ)). ns ++ bound_in (outside_of steps)) (step_binds step)
    ∙ binds_none steps

-- the helpers by which an object is lent need nothing of the module
abbrev lending_helpers : List (List ℕ)
lending_helpers = codes "addBorrowedObject" ∷ codes "heap" ∷ codes "stack_pointer" ∷ []

lending_free : AreAmong lending_helpers free_names
lending_free = (any_in _ free_names refl, (any_in _ free_names refl, (any_in _ free_names refl, tt)))

-- so do those that a step may call whatever the module gives
abbrev absent_helpers : List (List ℕ)
absent_helpers = codes "isLikeNone" ∷ codes "WASM_VECTOR_LEN" ∷ []

absent_base : AreAmong absent_helpers base_names
absent_base = (any_in _ base_names refl, (any_in _ base_names refl, tt))

-- all these are provided
free_provided : (parts : HelperParts) → AreAmong free_names (provided_names parts)
free_provided parts = among_trans free_names base_names (provided_names parts) (among_test free_names base_names refl) (base_among parts)

absent_provided : (parts : HelperParts) → AreAmong absent_helpers (provided_names parts)
absent_provided parts = among_trans absent_helpers base_names (provided_names parts) absent_base (base_among parts)

-- a file has the names that words use
abbrev pub HasNames : Context → List Word → Type 0
HasNames c words =
    AreAmong (used_in words) c.declared × AreAmong (hosted_in words) c.hosts × AreAmong (wasm_in words) c.exports
    × AreAmong (spliced_in words) c.keys × (list_all is_computed (spliced_in words) ≡ true)

-- the words of fields, and of a property, use nothing but their computed keys
has_keys : (c : Context) (found words : List Word) (keys : List (List ℕ)) → TellsKeys found keys → AreAmong keys c.keys → HasNames c words → HasNames c (found ++ words)
has_keys c found words keys k among h = grind (arith, filter_map-append, list_all-append, among_both)

-- a file has the names that parts of an expression use
pub has_parts : (c : Context) (parts : List Part) (words : List Word) → AllByRecursion (HasPart c) parts → HasNames c words → HasNames c (outer_parts parts ++ words)
has_parts c [] words k h = h
has_parts c (part.Host name fields ∷ parts) words k h =
    let rest = has_keys c (path_words fields) (outer_parts parts ++ words) (filter is_computed fields) (path_tells fields) k.0.1 (has_parts c parts words k.1 h) in
    rw (append_assoc (path_words fields) (outer_parts parts) words) (rest.0, (k.0.0, rest.1), rest.2, rest.3, rest.4)
has_parts c (part.Exports ∷ parts) words k h = let rest = has_parts c parts words k.1 h in ((k.0, rest.0), rest.1, rest.2, rest.3, rest.4)
has_parts c (part.Export name ∷ parts) words k h =
    let rest = has_parts c parts words k.1 h in ((k.0.0, rest.0), rest.1, (k.0.1, rest.2), rest.3, rest.4)
has_parts c (part.Property name ∷ parts) words k h =
    rw (append_assoc (property_parts name) (outer_parts parts) words)
    (has_keys c (property_parts name) (outer_parts parts ++ words) (filter is_computed (name ∷ [])) (property_tells name) k.0 (has_parts c parts words k.1 h))
has_parts c (part.Name name ∷ parts) words k h = let rest = has_parts c parts words k.1 h in ((k.0, rest.0), rest.1, rest.2, rest.3, rest.4)
has_parts c (part.Chained name ∷ parts) words k h =
    subst (HasNames c) (sym (append_assoc (chained_words name) (outer_parts parts) words))
    (has_keys c (chained_words name) (outer_parts parts ++ words) (filter is_computed (name ∷ [])) (chained_tells name) k.0 (has_parts c parts words k.1 h))
has_parts c (other ∷ parts) words k h = has_parts c parts words k.1 h

-- and those that an expression with the statements before it uses
has_expression_names : (c : Context) (e : Expression) (words : List Word) → HasExpression c e → HasNames c words → HasNames c (outer_expression e ++ words)
has_expression_names c e words k h =
    subst (HasNames c) (sym (append_assoc (outer_parts e.prelude) (outer_parts e.value) words))
    (has_parts c e.prelude (outer_parts e.value ++ words) k.above (has_parts c e.value words k.value h))

-- what passes a test among items passes it among more items
passes_in : {A : Type 0} (test : A → Bool) (x : A) (ys : List A) → test x ≡ true → IsIn x ys → IsIn x (filter test ys)
passes_in test x [] q k = absurd k
passes_in test x (y ∷ ys) q k = let rest = passes_in test x ys q in grind arith

kept_in : {A : Type 0} (test : A → Bool) (xs ys : List A) → AreAmong xs ys → AreAmong (filter test xs) (filter test ys)
kept_in test [] ys h = tt
kept_in test (x ∷ xs) ys h = let rest = kept_in test xs ys h.1 in let here = passes_in test x ys in grind arith

module _ (s : Settings) (l : Lowered) where
  -- the names of a file of the description, with these declared
  abbrev pub names_with : (declared : List (List ℕ)) → Context
  names_with declared = record {
    hosts = host_names s l.aux;
    exports = names_with_added s l ++ last_exports s l;
    keys = described_keys l.aux;
    declared = declared;
  }

  -- the computed keys of a described import are described
  pub keys_described : (e : ℕ × AuxImport) → IsIn e l.aux.imports → AreAmong (filter is_computed (import_properties e.1)) (described_keys l.aux)
  keys_described e i =
      let all = imported_properties l.aux in
      let rest = other_properties l.aux in
      let named = among_by (import_properties e.1) all (λ x k. in_flat (λ (e : ℕ × AuxImport). import_properties e.1) l.aux.imports e x i k) in
      kept_in is_computed (import_properties e.1) (all ++ rest) (among_left (import_properties e.1) all rest named)

  pub fixed_hosts : AreAmong used_hosts (host_names s l.aux)
  unfolding host_names
  fixed_hosts =
      let known : AreAmong used_hosts (map (λ w. w.now) HOSTS) = all_found (map (λ w. w.now) HOSTS) used_hosts refl in
      among_left used_hosts (map (λ w. w.now) HOSTS) _ known

  module _ (m : NameMap) where
    -- what holds of the name that a described import begins with, where an adapter of an own import calls it
    abbrev ForCalled : (JsImportName → Type 0) → Type 0
    ForCalled P = (id : ℕ) (w : AuxImport) → has_number id (own_callees s l) ≡ true → entry_of id l.aux.imports ≡ Some w
        → (n : JsImportName) → IsIn n (names_of (js_import w)) → P n

    -- items go by the names of their exports, and ids can name all memories and tables
    pub record AreTaken : Type 0 where
      pub items : m.wasm ≡ item_map (item_names s l)
      pub few : are_few l.«module» ≡ true

    -- what stands for each is an identifier, and no drawn one is `wasm`, nor is the name of a closure's function; names of lists are identifiers
    pub record AreWell : Type 0 where
      pub named : ForCalled (IsWell m)
      pub closures : (function : List ℕ) → IsClosureOf s l function → (is_ident function && not (is_wasm function)) ≡ true
      pub lists : (name : List ℕ) → IsIn name (list_names s l) → is_ident name ≡ true
      pub taken : AreTaken

    -- these names hold what functions and definitions use of the file: `wasm`, `memory` where that is handed in, helpers that are provided, functions
    -- of closures, lists of string enums, the drawn names, and those that the file has for the values of intrinsics; what has no drawn name is a name of the host
    pub record HasBasis (declared : List (List ℕ)) : Type 0 where
      pub wasm : IsIn (codes "wasm") declared
      pub memory : takes_memory s l ≡ true → IsIn (codes "memory") declared
      pub helpers : AreAmong (provided_names (helper_parts s l m)) declared
      pub closures : (function : List ℕ) → IsClosureOf s l function → IsIn function declared
      pub lists : AreAmong (list_names s l) declared
      pub begun : ForCalled (HasName (names_with declared) m)
      pub values : HasLoaded (names_with declared) s.target
      pub taken : AreTaken

    abbrev AreThere : List Step → Type 0
    AreThere = AllByRecursion (IsThere s l m)

    pub named_well : AreWell → (e : Expression) (d : IsDescribed s l m e) → IsNamedWell m (js_import d.entry.1)
    named_well well e d n i = well.named d.entry.0 d.entry.1 d.own d.first n i

    -- the name of a helper that an instruction calls is an identifier, and not `wasm`
    helper_fit : AreWell → (helper : List ℕ) → IsHelperOf s l helper → (is_ident helper && not (is_wasm helper)) ≡ true
    helper_fit well helper h =
        let found = helper_provided s l m well.taken.items well.taken.few helper h in
        let listed = bound_listed (helper_parts s l m) helper found.0 found.1.0 in
        and_from (is_ident helper) (not (is_wasm helper)) (listed_ident (helper_parts s l m) helper listed) (listed_apart (helper_parts s l m) helper listed)

    -- that of a list is so too
    list_fit : AreWell → (list : List ℕ) → IsListOf s l list → (is_ident list && not (is_wasm list)) ≡ true
    list_fit well list d =
        and_from (is_ident list) (not (is_wasm list)) (well.lists list (list_chosen s l list d)) (subst (λ (name : List ℕ). not (is_wasm name) ≡ true) (sym d.is) refl)

    -- the texts of steps are spaced
    is_fit : AreWell → (step : Step) → IsThere s l m step → step_fit step ≡ true
    is_fit well (CallImport adapter n has_result e) d =
        expression_fit s m (given_of m l d.entry.1) d.call d.spread d.bound d.entry.1 e (named_well well e d) d.is
    is_fit well (CallHelper helper n) d = helper_fit well helper d
    is_fit well (UnwrapResult helper) d = helper_fit well helper d
    is_fit well (PassToMemory helper exports optional) d = helper_fit well helper d.0
    is_fit well (CopyOut helper) d = helper_fit well helper d
    is_fit well (LoadReturn view offset is_wide) d = helper_fit well view d
    is_fit well (StoreReturn view offset is_wide) d = helper_fit well view d
    is_fit well (MakeClosure helper function) d =
        and_from (is_ident helper && not (is_wasm helper)) (is_ident function && not (is_wasm function)) (helper_fit well helper d.0) (well.closures function d.1)
    is_fit well (IndexOf list) d = list_fit well list d
    is_fit well (ItemAt list) d = list_fit well list d
    is_fit well other d = refl

    are_fit : AreWell → (steps : List Step) → AreThere steps → list_all step_fit steps ≡ true
    are_fit well [] h = refl
    are_fit well (step ∷ steps) h = let here = is_fit well step h.0 in let rest = are_fit well steps h.1 in grind arith

    -- where what each step names is there, a file with these names has those of the steps
    module _ (declared : List (List ℕ)) (basis : HasBasis declared) where
      abbrev parts : HelperParts
      parts = helper_parts s l m

      -- the helpers that instructions call
      helper_declared : (helper : List ℕ) → IsHelperOf s l helper → IsIn helper declared
      helper_declared helper h =
          among_in helper (provided_names parts) declared basis.helpers
          (provided_in parts helper (helper_provided s l m basis.taken.items basis.taken.few helper h))

      -- the lists that instructions name
      list_declared : (list : List ℕ) → IsListOf s l list → IsIn list declared
      list_declared list d = among_in list (list_names s l) declared basis.lists (list_chosen s l list d)

      -- those that need nothing of the module
      pub free_declared : AreAmong free_names declared
      free_declared = among_trans free_names (provided_names parts) declared (free_provided parts) basis.helpers

      absent_declared : AreAmong absent_helpers declared
      absent_declared = among_trans absent_helpers (provided_names parts) declared (absent_provided parts) basis.helpers

      -- the export of a function that an instruction names
      function_there : (name : List ℕ) → IsNamedFunction s l m name → IsIn name (names_with declared).exports
      function_there name f =
          in_left name (names_with_added s l) (last_exports s l) (function_known s l m basis.taken.items basis.taken.few name f)

      -- that of the shim, where a function takes room
      mover_there : uses_shim s l ≡ true → has_stack l ≡ true → IsIn shim_name (names_with declared).exports
      mover_there uses stacked =
          in_right shim_name (names_with_added s l) (last_exports s l)
          (in_left shim_name (shim_export (shim_global s l)) (call_takes (has_start l.«module»)) (shim_there s l uses stacked))

      exports_there : (exports : List (List ℕ)) → AllByRecursion (IsNamedFunction s l m) exports → (words : List Word) → HasNames (names_with declared) words
          → HasNames (names_with declared) (exports_words exports ++ words)
      exports_there [] h words k = k
      exports_there (name ∷ exports) h words k =
          let rest = exports_there exports h.1 words k in
          ((basis.wasm, rest.0), rest.1, (function_there name h.0, rest.2), rest.3, rest.4)

      passed_there : (optional : Bool) (helper : List ℕ) (exports : List (List ℕ)) → IsHelperOf s l helper → AllByRecursion (IsNamedFunction s l m) exports
          → (words : List Word) → HasNames (names_with declared) words
          → HasNames (names_with declared) (outside_words (PassToMemory helper exports optional) ++ words)
      passed_there false helper exports h f words k =
          let rest = exports_there exports f words k in
          ((helper_declared helper h, (absent_declared.1.0, rest.0)), rest.1, rest.2, rest.3, rest.4)
      passed_there true helper exports h f words k =
          let rest = exports_there exports f words k in
          ((absent_declared.0, (helper_declared helper h, (absent_declared.1.0, rest.0))), rest.1, rest.2, rest.3, rest.4)

      -- the export that gives the item of a described import
      item_there : (e : Expression) (d : IsDescribed s l m e) → gives_item d.entry.1 ≡ true
          → IsIn (given_of m l d.entry.1).export (names_with declared).exports
      item_there e d gives = by (given_item l d.entry.1) refl (d.given gives)
        where
          by : (o : Option ExportItem) → given_item l d.entry.1 ≡ o → is_some o ≡ true → IsIn (export_named m o) (names_with declared).exports
          by None q h = absurd (true≢false (sym h))
          by (Some item) q h =
              let n = item_named s l item (item_asked s l d.entry.0 d.entry.1 item d.own d.first q) in
              in_left (export_named m (Some item)) (names_with_added s l) (last_exports s l)
              (subst (λ (name : List ℕ). IsIn name (names_with_added s l))
              (sym (ap or_empty (ap (λ (es : List (ExportItem × List ℕ)). look_up item_order es item) basis.taken.items ∙ n.1.0)))
              (given_listed s l item n.0 n.1.1))

      described_text : (e : Expression) → IsDescribed s l m e → HasExpression (names_with declared) e
      described_text e d = expression_has (names_with declared) s m (given_of m l d.entry.1) d.call d.spread d.bound d.entry.1 e (record {
        given = item_there e d;
        begun = basis.begun d.entry.0 d.entry.1 d.own d.first;
        keys = keys_described d.entry d.among;
        used = fixed_hosts;
        helpers = free_declared;
        exports = basis.wasm;
      }) basis.values d.is

      has_names : (steps : List Step) → AreThere steps → HasNames (names_with declared) (outside_of steps)
      has_names [] h = (tt, tt, tt, tt, refl)
      has_names (ToUnsigned64 ∷ steps) h = let k = has_names steps h.1 in (k.0, (fixed_hosts.0, k.1), k.2, k.3, k.4)
      has_names (CallHelper helper n ∷ steps) h =
          let k = has_names steps h.1 in ((helper_declared helper h.0, k.0), k.1, k.2, k.3, k.4)
      has_names (UnwrapResult helper ∷ steps) h =
          let k = has_names steps h.1 in ((helper_declared helper h.0, k.0), k.1, k.2, k.3, k.4)
      has_names (PassToMemory helper exports optional ∷ steps) h =
          passed_there optional helper exports h.0.0 h.0.1 (outside_of steps) (has_names steps h.1)
      has_names (DeferFree free align ∷ steps) h =
          let k = has_names steps h.1 in ((basis.wasm, k.0), k.1, (function_there free h.0, k.2), k.3, k.4)
      has_names (CopyOut helper ∷ steps) h =
          let k = has_names steps h.1 in ((helper_declared helper h.0, k.0), k.1, k.2, k.3, k.4)
      has_names (ReturnPointer size ∷ steps) h =
          let k = has_names steps h.1 in ((basis.wasm, k.0), k.1, (mover_there h.0.0 h.0.1, k.2), k.3, k.4)
      has_names (LoadReturn view offset is_wide ∷ steps) h =
          let k = has_names steps h.1 in ((helper_declared view h.0, k.0), k.1, k.2, k.3, k.4)
      has_names (StoreReturn view offset is_wide ∷ steps) h =
          let k = has_names steps h.1 in ((helper_declared view h.0, k.0), k.1, k.2, k.3, k.4)
      has_names (MakeClosure helper function ∷ steps) h =
          let k = has_names steps h.1 in ((helper_declared helper h.0.0, (basis.closures function h.0.1, k.0)), k.1, k.2, k.3, k.4)
      has_names (IndexOf list ∷ steps) h =
          let k = has_names steps h.1 in ((list_declared list h.0, k.0), k.1, k.2, k.3, k.4)
      has_names (ItemAt list ∷ steps) h =
          let k = has_names steps h.1 in ((list_declared list h.0, k.0), k.1, k.2, k.3, k.4)
      has_names (IndexFromBorrow ∷ steps) h =
          let k = has_names steps h.1 in
          let lent = among_trans lending_helpers free_names declared lending_free free_declared in
          ((lent.0, (lent.1.0, (lent.1.1.0, k.0))), (fixed_hosts.1.0, k.1), k.2, k.3, k.4)
      has_names (CallExport name n has_result ∷ steps) h =
          let k = has_names steps h.1 in
          let kept = in_left name (names_with_added s l) (last_exports s l)
          (in_left name (export_names l.«module») (map (λ (x : List ℕ × ExportItem). x.0) (added_exports s l)) h.0) in
          ((basis.wasm, k.0), k.1, (kept, k.2), k.3, k.4)
      has_names (CallImport adapter n has_result e ∷ steps) h =
          has_expression_names (names_with declared) e (outside_of steps) (described_text e h.0) (has_names steps h.1)
      has_names (other ∷ steps) h = has_names steps h.1

-- ---- the item of a function, with words before and behind it

pub inner_words : (words : List Word) → list_all is_inner words ≡ true → list_any is_export_key words ≡ false
inner_words [] h = refl
inner_words (word ∷ words) h = let rest = inner_words words in grind arith

pub function_binds : {s : Settings} {m : NameMap} {l : Lowered} {id : ℕ} {form : Form} {names around : List (List ℕ)} {f : _}
    (d : IsFunctionOf s m l id form names around f) (back : List Word)
    → bound_in (f.words ++ back) ≡ bound_in back
function_binds {form = form} {around = around} {f = f} d back = filter_map-append bound_name f.words back
    ∙ rw (d.bound.words, bound_binds form d.steps _ around f d.bound [] [] (binds_none d.steps)) refl

-- the function's own names are apart from those that stand around it
pub function_apart : {s : Settings} {m : NameMap} {l : Lowered} {id : ℕ} {form : Form} {names around : List (List ℕ)} {f : _}
    (d : IsFunctionOf s m l id form names around f) → AreApart (f.params ++ d.bound.temps) around
function_apart {form = form} {around = around} {f = f} d = around_apart form d.steps _ around f d.bound

module _ {s : Settings} {m : NameMap} {l : Lowered} {id : ℕ} {form : Form} {names around : List (List ℕ)} {f : _}
    (d : IsFunctionOf s m l id form names around f) (well : AreWell s l m)
    (h : HasSteps s l id) where
  there : AllByRecursion (IsThere s l m) d.steps
  there = let given = h m in rw d.told at given

  module _ (front back : List Word) (frame : IsFrame front back) where
    -- no word of the function is `export`
    pub function_inner : list_any is_export_key f.words ≡ false
    function_inner = inner_words f.words (rw d.bound.words (bound_inner form d.steps _ around f d.bound front back (are_fit s l m well d.steps there) frame))

    -- the item belongs into a file that has the names of what stands around the function
    pub function_fits : (declared : List (List ℕ)) → HasBasis s l m declared → HasNames (names_with s l declared) front × HasNames (names_with s l declared) back
        × StandsBeside (f.params ++ d.bound.temps) front × StandsBeside (f.params ++ d.bound.temps) back → Belongs (names_with s l declared) (front ++ (f.words ++ back))
    function_fits declared basis (h', k, m', n) =
        let c = names_with s l declared in
        let i = has_names s l m declared basis d.steps there in
        let fit = are_fit s l m well d.steps there in
        rw d.bound.words (record {
          resolved = bound_resolved form d.steps _ around f d.bound front back c.hosts c.declared (search h') (search i) (search k);
          local = bound_local form d.steps _ around f d.bound front back fit m' n;
          exported = bound_exported form d.steps _ around f d.bound front back fit frame c.exports h'.2 i.2 k.2;
          described = bound_keyed form d.steps _ around f d.bound front back c.keys (search h') (search i) (search k);
          alone = bound_alone form d.steps _ around f d.bound front back fit frame;
        })

-- ---- exports

pub declaration_frame : (name : List ℕ) → is_ident name ≡ true → IsFrame (declaration_front name) declaration_back
declaration_frame name ident = record { right = (rw ident refl, refl); before = refl; behind = refl; after = refl; apart = refl; ends = refl }

module _ (s : Settings) (m : NameMap) (l : Lowered) (e : AuxExport) (items : FunctionItems) (d : AreFunctionItems s m l e items) where
  abbrev name : List ℕ
  name = declared_name m e

  -- the declaration, without the note
  abbrev bare : List Word
  bare = declaration_front name ++ (d.function.words ++ declaration_back)

  -- the lines of the note
  abbrev lines : List (List ℕ)
  lines = note_lines s m l e d.function.params

  -- the declaration
  abbrev pub declared : Item
  declared = declare_item lines e.adapter name d.function.words

  bare_binds : bound_in bare ≡ name ∷ []
  bare_binds = rw (function_binds d.of_adapter declaration_back) refl

  -- it binds the name
  pub declared_binds : bound_in declared.words ≡ name ∷ []
  declared_binds = noted_binds lines bare ∙ bare_binds

  -- with `export` it is the same behind the keyword
  pub declared_exported : (exported_item declared).words ≡ declaration_words true lines name d.function.words
  declared_exported = noted_exported lines key.FUNCTION (space ∷ w.Bind name ∷ (d.function.words ++ declaration_back))

  module _ (well : AreWell s l m) (ident : is_ident name ≡ true) (h : HasSteps s l e.adapter) where
    -- it isn't exported by itself
    pub declared_hidden : is_exported declared ≡ false
    declared_hidden =
        noted_unexported lines bare
        (list_any-append is_export_key d.function.words declaration_back
        ∙ rw (function_inner d.of_adapter well h (declaration_front name) declaration_back (declaration_frame name ident)) refl)

    -- what is published for the function is declared
    pub function_declared : IsDeclared e items
    function_declared = inr (record {
      before = [];
      item = declared;
      after = [];
      are = ap (λ (x : FunctionItems). x.1) d.are;
      declares = refl;
      binds = declared_binds ∙ ap (λ (x : FunctionItems). x.0 ∷ []) (sym d.are);
      unexported = declared_hidden;
      plain = refl;
    })

    -- it belongs into a file that has what functions use, exported or not
    pub declared_belongs : (declared : List (List ℕ)) → HasBasis s l m declared → (exported : Bool)
        → Belongs (names_with s l declared) (declaration_words exported lines name d.function.words)
    declared_belongs declared basis exported =
        noted_belong (names_with s l declared) lines (export_first exported ++ bare) (by exported)
      where
        alone : Belongs (names_with s l declared) bare
        alone = function_fits d.of_adapter well h (declaration_front name) declaration_back (declaration_frame name ident) declared basis
            (search (rules, apart_none))

        by : (exported : Bool) → Belongs (names_with s l declared) (export_first exported ++ bare)
        by true = export_belongs (names_with s l declared) bare alone
        by false = alone
