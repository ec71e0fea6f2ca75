-- What the items that define own imports hold and declare, and that each belongs into the file.
use Rattle.glue_context.proofs.Common.{◌≡◌, ℕ, inl, inr, List, [], ◌∷◌, ◌++◌, map, Bool, true, false, refl, sym, ap, ◌∙◌, subst, append-nil, codes, filter_map, filter_map-append, true≢false, list_all, list_any, Option, Some, None, IsIn, AreAmong, HOSTS, Item, Belongs, Context, ImportKind, bound_name, bound_in, used_in, hosted_in, wasm_in, spliced_in, is_export_key, is_exported, Settings, NameMap, Lowered, host_names, own_imports, HasSteps, IsDefineItem}
use Rattle.std.specs.Prelude.{◌||◌}
use Rattle.std.proofs.lemmas.Bool.{and_parts}
use Rattle.std.proofs.lemmas.List.Folds.{list_any-append}
use Rattle.wasm_core.specs.ids.ImportId.{ImportId}
use Rattle.wasm_core.specs.types.Limits.{Limits}
use Rattle.glue_words.specs.declared.word.Word.{Word}
use Rattle.glue_words.specs.declared.item.Role.{Role}
use Rattle.glue_words.specs.declared.item.Role.TheVariants as role
use Rattle.glue_words.specs.Ident.{is_ident}
use Rattle.glue_words.specs.Limits.{is_computed, is_prop}
use Rattle.glue_words.specs.Names.{used_name, hosted_name, local_name, local_bound_name, wasm_name, spliced_key, local_in, local_bound_in}
use Rattle.glue_words.specs.Spacing.{joins, first_word, each_next}
use Rattle.glue_words.specs.Tables.{punct_text}
use Rattle.glue_words.specs.Words.{printed, space}
use Rattle.glue_words.proofs.Among.{among_in}
use Rattle.glue_words.proofs.Idents.{ascii_ident, ascii_prop}
use Rattle.glue_words.proofs.Spaced.{all_both, each_next_both, ends_in_gap-append, first_word-append}
use Rattle.glue_tree.specs.FixedWords.{comma}
use Rattle.glue_tree.proofs.Fit.{is_good, is_right, is_inner, spaced}
use Rattle.glue_tree.proofs.Functions.{words_alone, words_named, bound_kind, used_kind, hosted_kind, local_kind, local_bound_kind, wasm_kind, spliced_kind}
use Rattle.glue_tree.proofs.Names.{IsKind}
use Rattle.glue_imports.specs.Given.{nothing_given}
use Rattle.glue_imports.specs.declared.part.Part.{Part}
use Rattle.glue_imports.specs.declared.part.Part.TheVariants as part
use Rattle.glue_imports.specs.Definitions.{function_or_throw, if_function, else_not_defined}
use Rattle.glue_imports.specs.Roots.{begins_with, drawn_name, plain_name, root}
use Rattle.glue_operands.proofs.Free.{is_free, free_found, free_take}
use Rattle.glue_operands.proofs.Parts.{outer_parts, parts_declare, parts_bind, parts_use}
use Rattle.glue_operands.proofs.Standing.{free_stand}
use Rattle.glue_shared.specs.declared.import.AuxImport.TheVariants as what
use Rattle.glue_shared.specs.declared.import.AuxValue.TheVariants as value
use Rattle.glue_shared.specs.declared.import.JsImport.{JsImport}
use Rattle.glue_shared.specs.Names.{adapter_for, handed_part, has_number}
use Rattle.glue_names.proofs.Called.{called_own}
use Rattle.glue_check.proofs.OwnPairs.{IsDefinableBy, IsDefinedImport, number_there}
use Rattle.glue_context.specs.Defined.{HoldsAdapter, HoldsDefinition, HoldsFunction}
use Rattle.glue_context.specs.DefinedItems.{IsAdapterItem, IsDefinedBy, IsFunctionItem, IsMemoryItem, IsPartItem, is_unpaired, value_back, address_words, limit_words, maximum_words, memory_back, memory_front, memory_words, part_words, spelled, value_front, value_text, words_text}
use Rattle.glue_context.specs.Handing.{definition_back, definition_front, names_around, throws_of}
use Rattle.glue_context.specs.Parts.{helper_parts}
use Rattle.glue_context.specs.Rewritten.{rewritten}
use Rattle.glue_context.proofs.Declared.{all_found}
use Rattle.glue_context.proofs.Edited.{moved_keeps}
use Rattle.glue_context.proofs.Entries.{any_there}
use Rattle.glue_context.proofs.ExpressionFits.{function_fit}
use Rattle.glue_context.proofs.ExpressionNames.{HasImport, function_has}
use Rattle.glue_context.proofs.Fits.{AreWell, HasBasis, HasNames, fixed_hosts, free_declared, function_apart, function_binds, function_fits, function_inner, has_parts, inner_words, keys_described, names_with}
use Rattle.glue_context.proofs.HandedParts.{IsHanded, entry_there, handed_is}
use Rattle.glue_context.proofs.HandingFacts.{around_declared, back_binds, back_inner, beside, defines, front_binds, front_inner}
use Rattle.glue_context.proofs.Provided.{errors_provided}
use Rattle.printed_adapters.specs.Caught.{catches}
use Rattle.glue_check.proofs.Complete.{CanHand}
use Rattle.helper_table.proofs.Supplied.{provided_in, provided_names}

-- the text of an item by itself is that of its words
pub one_printed : (r : Role) (words : List Word) → printed (record { role = r; words = words } ∷ []) ≡ words_text words
one_printed r words = ap words_text (append-nil words)

-- ---- a value between a name and a comma

good_parts : (words : List Word) → list_all is_good words ≡ true → (list_all is_right words ≡ true) × (list_all is_inner words ≡ true)
good_parts [] h = (refl, refl)
good_parts (word ∷ words) h =
    let here = and_parts (is_good word) (list_all is_good words) h in
    let both = and_parts (is_right word) (is_inner word) here.0 in
    let rest = good_parts words here.1 in
    (rw (both.0, rest.0) refl, rw (both.1, rest.1) refl)

-- a value with its names, which holds no locals, declares nothing and takes no export
pub record IsValue (c : Context) (value : List Word) : Type 0 where
  pub good : list_all is_good value ≡ true
  pub front : spaced space (first_word value (Some comma)) ≡ true
  pub each : each_next spaced value (Some comma) ≡ true
  pub names : HasNames c value
  pub binds : bound_in value ≡ []
  pub locals : local_in value ≡ []
  pub declares : local_bound_in value ≡ []
  pub takes : wasm_in value ≡ []

module _ (c : Context) (name : List ℕ) (value : List Word) (v : IsValue c value) where
  abbrev words : List Word
  words = value_front name ++ (value ++ value_back)

  -- the words behind it hold no names
  kept : (kind : Word → Option (List ℕ)) → filter_map kind value_back ≡ [] → filter_map kind (value ++ value_back) ≡ filter_map kind value
  kept kind h =
      filter_map-append kind value value_back ∙ ap (λ (ns : List (List ℕ)). filter_map kind value ++ ns) h ∙ append-nil (filter_map kind value)

  stand : each_next spaced words None ≡ true
  unfolding joins punct_text
  stand =
      let first : spaced space (first_word (value ++ value_back) None) ≡ true =
      ap (spaced space) (first_word-append value value_back None) ∙ v.front in
      let each = each_next_both spaced value value_back None v.each refl in
      rw (first, each) refl

  right : list_all is_right words ≡ true
  right = all_both is_right value value_back (good_parts value v.good).0 refl

  inner : list_any is_export_key words ≡ false
  inner = list_any-append is_export_key value value_back ∙ rw (inner_words value (good_parts value v.good).1) refl

  value_binds : bound_in words ≡ []
  value_binds = kept bound_name refl ∙ v.binds

  value_belongs : Belongs c words
  value_belongs = record {
    resolved = record {
      bound = subst (λ (ns : List (List ℕ)). AreAmong ns c.declared) (sym (kept used_name refl)) v.names.0;
      known = subst (λ (ns : List (List ℕ)). AreAmong ns c.hosts) (sym (kept hosted_name refl)) v.names.1;
    };
    local = record {
      bound = rw (kept local_name refl, v.locals) tt;
      apart = rw (kept local_bound_name refl, v.declares) tt;
    };
    exported = record {
      known = rw (kept wasm_name refl, v.takes) tt;
      named = words_named words stand;
    };
    described = record {
      known = subst (λ (ns : List (List ℕ)). AreAmong ns c.keys) (sym (kept spliced_key refl)) v.names.3;
      formed = subst (λ (ns : List (List ℕ)). list_all is_computed ns ≡ true) (sym (kept spliced_key refl)) v.names.4;
    };
    alone = words_alone words right stand refl (ends_in_gap-append (value_front name) (value ++ value_back) (ends_in_gap-append value value_back refl));
  }

-- ---- a memory

-- the words of a memory with these limits
abbrev limited : (least : ℕ) (wide : Bool) (most : Option ℕ) → List Word
limited least wide most = memory_front ++ (limit_words wide least ++ (maximum_words wide most ++ (address_words wide ++ memory_back)))

memory_idents : (is_ident (codes "memory") ≡ true) × (is_ident (codes "WebAssembly") ≡ true) × (is_prop (codes "Memory") ≡ true)
    × (is_prop (codes "initial") ≡ true)
memory_idents =
    (ascii_ident (codes "memory") refl, ascii_ident (codes "WebAssembly") refl, ascii_prop (codes "Memory") refl, ascii_prop (codes "initial") refl)

memory_good : (least : ℕ) (wide : Bool) (most : Option ℕ) → list_all is_good (limited least wide most) ≡ true
memory_good least false None = let h = memory_idents in rw (h.0, h.1, h.2, h.3) refl
memory_good least false (Some most) = let h = memory_idents in rw (h.0, h.1, h.2, h.3, ascii_prop (codes "maximum") refl) refl
memory_good least true None = let h = memory_idents in rw (h.0, h.1, h.2, h.3, ascii_prop (codes "address") refl) refl
memory_good least true (Some most) =
    let h = memory_idents in rw (h.0, h.1, h.2, h.3, ascii_prop (codes "maximum") refl, ascii_prop (codes "address") refl) refl

memory_each : (least : ℕ) (wide : Bool) (most : Option ℕ) → each_next spaced (limited least wide most) (Some comma) ≡ true
unfolding joins punct_text
memory_each least false None = refl
memory_each least false (Some most) = refl
memory_each least true None = refl
memory_each least true (Some most) = refl

-- they use `memory` and `WebAssembly`, and hold no other name
record HoldsMemory (words : List Word) : Type 0 where
  uses : used_in words ≡ codes "memory" ∷ []
  hosts : hosted_in words ≡ codes "WebAssembly" ∷ []
  takes : wasm_in words ≡ []
  keys : spliced_in words ≡ []
  binds : bound_in words ≡ []
  locals : local_in words ≡ []
  declares : local_bound_in words ≡ []

memory_holds : (least : ℕ) (wide : Bool) (most : Option ℕ) → HoldsMemory (limited least wide most)
memory_holds least false None =
    record { uses = refl; hosts = refl; takes = refl; keys = refl; binds = refl; locals = refl; declares = refl }
memory_holds least false (Some most) =
    record { uses = refl; hosts = refl; takes = refl; keys = refl; binds = refl; locals = refl; declares = refl }
memory_holds least true None =
    record { uses = refl; hosts = refl; takes = refl; keys = refl; binds = refl; locals = refl; declares = refl }
memory_holds least true (Some most) =
    record { uses = refl; hosts = refl; takes = refl; keys = refl; binds = refl; locals = refl; declares = refl }

memory_value : (c : Context) (limits : Limits) → IsIn (codes "memory") c.declared → IsIn (codes "WebAssembly") c.hosts → IsValue c (memory_words limits)
memory_value c limits declared known =
    let h = memory_holds limits.min limits.wide limits.max in record {
      good = memory_good limits.min limits.wide limits.max;
      front = refl;
      each = memory_each limits.min limits.wide limits.max;
      names = (
        subst (λ (ns : List (List ℕ)). AreAmong ns c.declared) (sym h.uses) (declared, tt),
        subst (λ (ns : List (List ℕ)). AreAmong ns c.hosts) (sym h.hosts) (known, tt),
        subst (λ (ns : List (List ℕ)). AreAmong ns c.exports) (sym h.takes) tt,
        subst (λ (ns : List (List ℕ)). AreAmong ns c.keys) (sym h.keys) tt,
        subst (λ (ns : List (List ℕ)). list_all is_computed ns ≡ true) (sym h.keys) refl,
      );
      binds = h.binds;
      locals = h.locals;
      declares = h.declares;
      takes = h.takes;
    }

-- ---- a property of a module's name

fields_free : (fields : List (List ℕ)) (behind : List Part) → list_all is_free behind ≡ true → list_all is_free (map part.Property fields ++ behind) ≡ true
fields_free [] behind h = h
fields_free (field ∷ fields) behind h = fields_free fields behind h

root_free : (m : NameMap) (j : JsImport) (behind : List Part) → list_all is_free behind ≡ true → list_all is_free (root m j ++ behind) ≡ true
root_free m j behind h = by (drawn_name m j.name)
  where
    by : (drawn : Option (List ℕ)) → list_all is_free (begins_with j.fields drawn (plain_name j.name) ++ behind) ≡ true
    by None = h
    by (Some drawn) = fields_free j.fields behind h

-- no part of its definition goes by a local or an operand
function_free : (m : NameMap) (j : JsImport) (text : List ℕ) → list_all is_free (function_or_throw m j text) ≡ true
function_free m j text = root_free m j (if_function ++ (root m j ++ else_not_defined text)) (root_free m j (else_not_defined text) refl)

-- the names of parts that go by neither
names_free : (c : Context) (parts : List Part) → list_all is_free parts ≡ true → HasNames c (outer_parts parts) → HasNames c (spelled parts)
names_free c parts free h =
    let same = λ (kind : Word → Option (List ℕ)) (is : IsKind kind). sym (free_found kind is parts free) in (
      subst (λ (ns : List (List ℕ)). AreAmong ns c.declared) (same used_name used_kind) h.0,
      subst (λ (ns : List (List ℕ)). AreAmong ns c.hosts) (same hosted_name hosted_kind) h.1,
      subst (λ (ns : List (List ℕ)). AreAmong ns c.exports) (same wasm_name wasm_kind) h.2,
      subst (λ (ns : List (List ℕ)). AreAmong ns c.keys) (same spliced_key spliced_kind) h.3,
      subst (λ (ns : List (List ℕ)). list_all is_computed ns ≡ true) (same spliced_key spliced_kind) h.4,
    )

part_binds : (m : NameMap) (j : JsImport) → bound_in (part_words m j) ≡ []
part_binds m j =
    let parts = function_or_throw m j (value_text m j) in free_found bound_name bound_kind parts (function_free m j (value_text m j)) ∙ parts_declare parts

module _ (s : Settings) (m : NameMap) (l : Lowered) where
  abbrev own : List ℕ
  own = own_imports s l.«module» l.wit l.aux

  -- ---- what a definition is, by cases

  module _ (place : ℕ) (item : Item) (P : Type 0) where
    define_cases : ((adapter : ℕ) → adapter_for l.wit.implements place ≡ Some adapter → IsFunctionItem s m l place adapter item → P)
        → ((adapter : ℕ) (j : JsImport) → adapter_for l.wit.implements place ≡ Some adapter → handed_part s l.wit l.aux adapter ≡ Some j → IsPartItem m l place j item → P)
        → (adapter_for l.wit.implements place ≡ None → IsMemoryItem l place item → P) → IsDefineItem s m l place item → P
    define_cases function handed memory d = by (adapter_for l.wit.implements place) refl d
      where
        by_part : (adapter : ℕ) → adapter_for l.wit.implements place ≡ Some adapter → (o : Option JsImport) → handed_part s l.wit l.aux adapter ≡ o
            → IsAdapterItem s m l place adapter item o → P
        by_part adapter e (Some j) q d = handed adapter j e q d
        by_part adapter e None q d = function adapter e d

        by : (o : Option ℕ) → adapter_for l.wit.implements place ≡ o → IsDefinedBy s m l place item o → P
        by (Some adapter) e d = by_part adapter e (handed_part s l.wit l.aux adapter) refl d
        by None e d = memory e d

  pub define_role : (place : ℕ) (item : Item) → IsDefineItem s m l place item → item.role ≡ role.Define place
  define_role place item = define_cases place item (item.role ≡ role.Define place) (λ adapter e d. rw d.is refl) (λ adapter j e q d. rw d.is refl)
      (λ e d. rw d.is refl)

  pub define_binds : (place : ℕ) (item : Item) → IsDefineItem s m l place item → bound_in item.words ≡ []
  define_binds place item = define_cases place item (bound_in item.words ≡ [])
      (λ adapter e d. let t = throws_of l adapter d.«import».kind in ap (λ (i : Item). bound_in i.words) d.is
      ∙ front_binds t d.«import».name (d.function.words ++ definition_back t) ∙ function_binds d.of_adapter (definition_back t) ∙ back_binds t)
      (λ adapter j e q d. ap (λ (i : Item). bound_in i.words) d.is ∙ filter_map-append bound_name (part_words m j) value_back ∙ rw (part_binds m j) refl)
      (λ e d. ap (λ (i : Item). bound_in i.words) d.is ∙ filter_map-append bound_name (memory_words d.memory.limits) value_back
      ∙ rw (memory_holds d.memory.limits.min d.memory.limits.wide d.memory.limits.max).binds refl)

  -- ---- it defines the import in the written module

  module _ (place : ℕ) (item : Item) (at : IsIn place own) (known : IsDefinedImport l place) where
    pub define_holds : IsDefineItem s m l place item → HoldsFunction s m l (rewritten s l) item.role item
    define_holds d =
        subst (λ (r : Role). HoldsFunction s m l (rewritten s l) r item) (sym (define_role place item d))
        (by (adapter_for l.wit.implements place) known.kind d)
      where
        mine : has_number place own ≡ true
        mine = number_there place own at

        by_part : (adapter : ℕ) → IsIn (record { 0 = place }, adapter) l.wit.implements → (o : Option JsImport) → IsAdapterItem s m l place adapter item o
            → HoldsAdapter s m l (rewritten s l) place adapter item o
        by_part adapter pair (Some j) d =
            let k = moved_keeps s l place d.«import» mine d.stands in
            rw d.is (record { pair = pair; «import» = k.0; stands = k.1; words = rw k.2 })
        by_part adapter pair None d =
            let k = moved_keeps s l place d.«import» mine d.stands in
            rw d.is (record { pair = pair; described = d.«import»; there = d.stands; function = d.function; of_adapter = d.of_adapter; «import» = k.0; stands = k.1; words = rw k.2 })

        by : (o : Option ℕ) → IsDefinableBy l place known.«import» o → IsDefinedBy s m l place item o → HoldsDefinition s m l (rewritten s l) place item o
        by (Some adapter) pair d = by_part adapter pair (handed_part s l.wit l.aux adapter) d
        by None plain d =
            let k = moved_keeps s l place d.«import» mine d.stands in
            rw d.is (record { described = d.«import»; there = d.stands; memory = d.memory; brought = d.brought; «import» = k.0; stands = k.1; words = rw k.2 })

  -- ---- it belongs into the file

  web_known : IsIn (codes "WebAssembly") (host_names s l.aux)
  unfolding host_names
  web_known =
      let texts = map (λ w. w.now) HOSTS in
      in_hosts (codes "WebAssembly") texts _ (all_found texts (codes "WebAssembly" ∷ []) refl).0
    where
      in_hosts : (name : List ℕ) (xs ys : List (List ℕ)) → IsIn name xs → IsIn name (xs ++ ys)
      in_hosts name [] ys i = absurd i
      in_hosts name (x ∷ xs) ys (inl same) = inl same
      in_hosts name (x ∷ xs) ys (inr i) = inr (in_hosts name xs ys i)

  module _ (well : AreWell s l m) (declared : List (List ℕ)) (basis : HasBasis s l m declared) where
    abbrev c : Context
    c = names_with s l declared

    -- a value that is a property of a module's name
    part_value : (pair : ImportId × ℕ) → IsIn pair l.wit.implements → has_number pair.0.0 own ≡ true → (j : JsImport) → IsHanded l pair.1 j → IsValue c (part_words m j)
    part_value pair at mine j h =
        let w = what.Value (value.Bare j) in
        let called = called_own s l pair at mine h.id h.called in
        let there = entry_there h.id l.aux.imports w h.described in
        let parts = function_or_throw m j (value_text m j) in
        let free = function_free m j (value_text m j) in
        let stands = free_stand (Some comma) parts (function_fit m j (value_text m j) (λ n i. well.named h.id w called h.described n i)) in
        let has : HasImport c m nothing_given w = record {
          given = λ none. absurd (true≢false (sym none));
          begun = basis.begun h.id w called h.described;
          keys = keys_described s l (h.id, w) there;
          used = fixed_hosts s l;
          helpers = free_declared s l m declared basis;
          exports = basis.wasm;
        } in
        let outer : HasNames c (outer_parts parts) =
        subst (HasNames c) (append-nil (outer_parts parts)) (has_parts c parts [] (function_has c m nothing_given j (value_text m j) has) (tt, tt, tt, tt, refl)) in record {
          good = stands.good;
          front = refl;
          each = stands.each;
          names = names_free c parts free outer;
          binds = part_binds m j;
          locals = free_found local_name local_kind parts free ∙ parts_use parts;
          declares = free_found local_bound_name local_bound_kind parts free ∙ parts_bind parts;
          takes = free_found wasm_name wasm_kind parts free ∙ free_take parts free;
        }

    memory_there : (place : ℕ) → IsIn place own → adapter_for l.wit.implements place ≡ None → (limits : Limits) → IsValue c (memory_words limits)
    memory_there place at e limits =
        memory_value c limits (basis.memory (any_there (is_unpaired l.wit.implements) own place at (rw e refl))) web_known

    module _ (steps : (pair : ImportId × ℕ) → IsIn pair l.wit.implements → has_number pair.0.0 own ≡ true → HasSteps s l pair.1)
        (hands : catches s l ≡ true → CanHand s l) (place : ℕ) (at : IsIn place own) (known : IsDefinedImport l place) (item : Item) where
      mine_there : has_number place own ≡ true
      mine_there = number_there place own at

      pair_there : (adapter : ℕ) → adapter_for l.wit.implements place ≡ Some adapter → IsIn (record { 0 = place }, adapter) l.wit.implements
      pair_there adapter e = subst (IsDefinableBy l place known.«import») e known.kind

      part_there : (adapter : ℕ) (j : JsImport) → adapter_for l.wit.implements place ≡ Some adapter → handed_part s l.wit l.aux adapter ≡ Some j → IsValue c (part_words m j)
      part_there adapter j e q = part_value (record { 0 = place }, adapter) (pair_there adapter e) mine_there j (handed_is s l adapter j q)

      -- the names around the adapter's function are declared
      around_there : (adapter : ℕ) → adapter_for l.wit.implements place ≡ Some adapter → (kind : ImportKind) → AreAmong (names_around (throws_of l adapter kind)) declared
      around_there adapter e kind = around_declared s l declared handled (record { 0 = place }, adapter) (pair_there adapter e) mine_there kind
        where
          handled : catches s l ≡ true → IsIn (codes "handleError") declared
          handled caught =
              among_in (codes "handleError") (provided_names (helper_parts s l m)) declared basis.helpers
              (provided_in (helper_parts s l m) (codes "handleError") (errors_provided s l m basis.taken.items basis.taken.few caught (hands caught)))

      pub define_belongs : IsDefineItem s m l place item → Belongs c item.words
      define_belongs = define_cases place item (Belongs c item.words)
          (λ adapter e d. let t = throws_of l adapter d.«import».kind in
          rw d.is (function_fits d.of_adapter well (steps (record { 0 = place }, adapter) (pair_there adapter e) mine_there) (definition_front t d.«import».name)
          (definition_back t) (defines t d.«import».name) declared basis
          (beside c (d.function.params ++ d.of_adapter.bound.temps) d.«import».name t (around_there adapter e d.«import».kind) (function_apart d.of_adapter))))
          (λ adapter j e q d. rw d.is (value_belongs c d.«import».name (part_words m j) (part_there adapter j e q)))
          (λ e d. rw d.is (value_belongs c d.«import».name (memory_words d.memory.limits) (memory_there place at e d.memory.limits)))

      pub define_exported : IsDefineItem s m l place item → is_exported item ≡ false
      define_exported = define_cases place item (is_exported item ≡ false)
          (λ adapter e d. let t = throws_of l adapter d.«import».kind in ap is_exported d.is
          ∙ front_inner t d.«import».name (d.function.words ++ definition_back t)
          ∙ list_any-append is_export_key d.function.words (definition_back t)
          ∙ ap (λ (b : Bool). b || list_any is_export_key (definition_back t))
          (function_inner d.of_adapter well (steps (record { 0 = place }, adapter) (pair_there adapter e) mine_there) (definition_front t d.«import».name)
          (definition_back t) (defines t d.«import».name))
          ∙ back_inner t)
          (λ adapter j e q d. rw d.is (inner c d.«import».name (part_words m j) (part_there adapter j e q)))
          (λ e d. rw d.is (inner c d.«import».name (memory_words d.memory.limits) (memory_there place at e d.memory.limits)))
