-- The names of the exports that give items: fresh ones are those that are defined, and each item that is asked for has one.
use Rattle.std.proofs.Common.{◌≡◌, ℕ, zero, suc, ◌+◌, ◌<◌, ◌≤◌, ◌^◌, List, [], ◌∷◌, ◌++◌, length, map, fold, refl, sym, ap, ◌∙◌, subst, Bool, true, false, true≢false, cond, Option, Some, None, inl, inr, ◌⊎◌, arith}
use Rattle.std.specs.Prelude.{is_some, option_and_then, unwrap_or}
use Rattle.std.specs.declared.cmp.Ordering.{Ordering}
use Rattle.std.specs.declared.cmp.Ordering.TheVariants.{Less, Equal, Greater}
use Rattle.std.specs.Cmp.{Equal-is, IsTotalOrder, tied_itself}
use Rattle.std.specs.FinSet as set
use Rattle.std.specs.List.{AllByRecursion, filter, filter_map, flat_map}
use Rattle.std.specs.Ordering.{eq_by_cmp, is_eq, match_ordering, nat_cmp}
use Rattle.std.specs.BTreeMap.{insert_entry}
use Rattle.std.specs.Cmp.Lexicographic.{nat_list_cmp_total, slice_cmp}
use Rattle.std.proofs.lemmas.Bool.{cases_lt}
use Rattle.values.specs.Lists.{IsIn}
use Rattle.values.specs.Map.{look_up}
use Rattle.values.specs.TextSet.{TextSet, with_texts}
use Rattle.values.proofs.Maps.{look_up_inserted}
use Rattle.values.proofs.Members.{in_either, in_left, in_right}
use Rattle.wasm_core.specs.Contents.{Contents}
use Rattle.wasm_core.specs.entries.Export.{Export}
use Rattle.wasm_core.specs.entries.ExportItem.{ExportItem}
use Rattle.wasm_core.specs.entries.ExportItem.TheVariants as items
use Rattle.wasm_file.specs.contracts.entries.ExportItemOrd.TheImpl.Laws as by_kind
use Rattle.glue_words.specs.Ident.{numbered, to_ident}
use Rattle.glue_scope.specs.Scope.{IsFirstFree, IsLeastFree}
use Rattle.glue_scope.proofs.Drawn.{first_free_new, least_free_unique, with_texts-append}
use Rattle.glue_scope.proofs.FirstFree.{first_free_there, least_free_there}
use Rattle.glue_shared.specs.declared.adapter.Instruction.{Instruction}
use Rattle.glue_shared.specs.declared.adapter.Instruction.TheVariants as instr
use Rattle.glue_shared.specs.declared.description.Lowered.{Lowered}
use Rattle.glue_shared.specs.declared.import.AuxImport.{AuxImport}
use Rattle.glue_shared.specs.declared.import.AuxImport.TheVariants as what
use Rattle.glue_shared.specs.declared.settings.Settings.{Settings}
use Rattle.glue_shared.specs.Names.{entry_of, has_number, own_imports}
use Rattle.glue_shared.specs.Roots.{is_live_item, listed, live_item}
use Rattle.glue_imports.specs.Given.{given_item, named_item}
use Rattle.glue_names.specs.Handed.{callee, own_callees, pair_callees}
use Rattle.glue_names.proofs.Globals.{from_flat, in_flat, some_of}
use Rattle.glue_names.proofs.Called.{callee_is, number_in}
use Rattle.glue_names.proofs.MappedLists.{from_part, in_map, in_where, where_true}
use Rattle.glue_names.specs.Naming.{shim_name, start_name}
use Rattle.printed_adapters.specs.Caught.{IsOfGlue, catches, handing}
use Rattle.printed_adapters.specs.Printed.{code_by, export_code, outer_code, pair_code, printed_code, used_closures}
use Rattle.glue_steps.specs.Exported.{export_name, export_names}
use Rattle.glue_steps.specs.Needed.{exception_store, named_by, needed_items, store_item}
use Rattle.glue_steps.specs.Resolving.{item_order}
use Rattle.taken_items.specs.Asked.{adapters_ask, asked_items, called_item, closure_asks, code_asks, export_asks, handing_asks, instruction_asks, pair_asks}
use Rattle.taken_items.specs.ItemNames.{AreFresh, added, added_exports, bound_exports, bound_with, each_item, export_of, free_number, fresh_name, further_exports, gives, item_map, item_name, item_names, named_items, put_named, wanted_export, with_item}

-- ---- fresh names

-- the least free number is found, where it is one of those that are tried
number_is : (bound : TextSet) (name : List ℕ) (from many n : ℕ) → IsLeastFree bound name from n → n ≤ from + many → free_number bound name from many ≡ n
number_is bound name from zero n h le = let low = h.above in omega (arith, low, le)
number_is bound name from (suc many) n h le = by (set.contains bound (numbered name from)) refl (number_is bound name (from + 1) many n)
  where
    later : set.contains bound (numbered name from) ≡ true → from + 1 ≤ n
    later e = elim (cases_lt from n) [
      | inl less ↦ omega (arith, less)
      | inr up ↦
          let low = h.above in
          let same : from ≡ n = omega (arith, up, low) in
          absurd (true≢false (sym e ∙ ap (λ (k : ℕ). set.contains bound (numbered name k)) same ∙ h.free))
    ]

    by : (b : Bool) → set.contains bound (numbered name from) ≡ b
        → (IsLeastFree bound name (from + 1) n → n ≤ from + 1 + many → free_number bound name (from + 1) many ≡ n)
        → cond b (free_number bound name (from + 1) many) from ≡ n
    by true e go = go (record {
      above = later e;
      free = h.free;
      taken = λ j low less. h.taken j (omega (arith, low)) less;
    }) (omega (arith, le))
    by false e go = elim (cases_lt from n) [
      | inl less ↦ absurd (true≢false (sym (h.taken from (omega arith) less) ∙ e))
      | inr up ↦ let low = h.above in omega (arith, up, low)
    ]

-- the first free name is the fresh one
fresh_is : (bound : TextSet) (name answer : List ℕ) → 2 + set.len bound < 2 ^ 64 → IsFirstFree bound name answer → answer ≡ fresh_name bound name
fresh_is bound name answer small (inl h) = h.1 ∙ ap (λ (b : Bool). cond b (numbered name (free_number bound name 2 (set.len bound))) name) (sym h.0)
fresh_is bound name answer small (inr h) =
    let there = least_free_there bound name small h.0 in
    let same = least_free_unique bound name 2 h.1.0 there.0 h.1.2 there.2 in
    let below = there.1 in
    h.1.1 ∙ ap (numbered name) (same ∙ sym (number_is bound name 2 (set.len bound) there.0 there.2 (omega (arith, below))))
    ∙ ap (λ (b : Bool). cond b (numbered name (free_number bound name 2 (set.len bound))) name) (sym h.0)

pub fresh_drawn : (bound : TextSet) (name answer : List ℕ) → 2 + set.len bound < 2 ^ 64 → IsFirstFree bound (to_ident name) answer
    → answer ≡ fresh_name bound (to_ident name)
fresh_drawn bound name answer small h = fresh_is bound (to_ident name) answer small h

-- it is free
fresh_new : (bound : TextSet) (name : List ℕ) → 2 + set.len bound < 2 ^ 64 → set.contains bound (fresh_name bound name) ≡ false
fresh_new bound name small =
    let there = first_free_there bound name small in
    first_free_new bound name (fresh_name bound name)
    (subst (λ (answer : List ℕ). IsFirstFree bound name answer) (fresh_is bound name there.0 small there.1) there.1)

-- ---- few names are bound

pub grown_by_one : (bound : TextSet) (name : List ℕ) → set.len (set.insert bound name) ≤ set.len bound + 1
grown_by_one bound name = by (set.contains bound name) (set.len-insert nat_list_cmp_total bound name)
  where
    by : (b : Bool) → set.len (set.insert bound name) ≡ cond b (set.len bound) (set.len bound + 1) → set.len (set.insert bound name) ≤ set.len bound + 1
    by true e = omega (arith, e)
    by false e = omega (arith, e)

texts_few : (bound : TextSet) (names : List (List ℕ)) → set.len (with_texts bound names) ≤ set.len bound + length names
texts_few bound [] = omega arith
texts_few bound (name ∷ names) =
    let rest = texts_few (set.insert bound name) names in
    let one = grown_by_one bound name in omega (arith, rest, one)

names_few : (exports : List (Option Export)) → length (filter_map export_name exports) ≤ length exports
names_few [] = omega arith
names_few (None ∷ exports) = let rest = names_few exports in omega (arith, rest)
names_few (Some e ∷ exports) = let rest = names_few exports in omega (arith, rest)

-- the scope's names, one after another
pub further_joined : (l : Lowered)
    → bound_exports l ≡ set.insert (set.insert (with_texts set.empty (filter_map export_name l.«module».exports)) start_name) shim_name
further_joined l = with_texts-append set.empty (export_names l.«module») further_exports

pub few_bound : (l : Lowered) → set.len (bound_exports l) ≤ length l.«module».exports + 2
few_bound l =
    let named = texts_few set.empty (export_names l.«module») in
    let few = names_few l.«module».exports in
    let none = set.len-empty (slice_cmp nat_cmp) in
    let both = texts_few (with_texts set.empty (export_names l.«module»)) further_exports in
    let joined = ap set.len (with_texts-append set.empty (export_names l.«module») further_exports) in
    omega (arith, named, few, none, both, joined)

-- ---- each item that is asked for is named

item_order_total : IsTotalOrder item_order
item_order_total = by_kind.total-law

number_same : (a b : ℕ) → is_eq (nat_cmp a b) ≡ true → a ≡ b
number_same a b h = set.nat_cmp-IsAntisymmetric a b ((Equal-is (nat_cmp a b)).0 h)

-- the order tells apart what differs
item_same : (x y : ExportItem) → is_eq (item_order x y) ≡ true → x ≡ y
item_same (items.Func a) (items.Func b) h = ap (λ (n : ℕ). items.Func (record { 0 = n })) (number_same a.0 b.0 h)
item_same (items.Table a) (items.Table b) h = ap (λ (n : ℕ). items.Table (record { 0 = n })) (number_same a.0 b.0 h)
item_same (items.Memory a) (items.Memory b) h = ap (λ (n : ℕ). items.Memory (record { 0 = n })) (number_same a.0 b.0 h)
item_same (items.Global a) (items.Global b) h = ap (λ (n : ℕ). items.Global (record { 0 = n })) (number_same a.0 b.0 h)
item_same (items.Tag a) (items.Tag b) h = ap (λ (n : ℕ). items.Tag (record { 0 = n })) (number_same a.0 b.0 h)
item_same x y h = absurd (true≢false (sym h))

some_is : {A : Type 0} (x y : A) → Some x ≡ Some y → x ≡ y
some_is x y e = ap (λ o. unwrap_or o x) e

-- what holds of an item holds of each item of a map
abbrev AllItems : {X : Type 0} → (ExportItem → Type 0) → List (ExportItem × X) → Type 0
AllItems P es = AllByRecursion (λ (e : ExportItem × _). P e.0) es

module _ {X : Type 0} where
  -- an item that is put into a map is there, and what was there stays
  put_there : (es : List (ExportItem × X)) (item : ExportItem) (x : X) → is_some (look_up item_order (insert_entry item_order es item x) item) ≡ true
  put_there es item x =
      ap is_some (look_up_inserted item_order item_order_total es item x item)
      ∙ ap (λ (b : Bool). is_some (cond b (Some x) (look_up item_order es item))) (ap is_eq (tied_itself item_order_total item))

  put_keeps : (es : List (ExportItem × X)) (item : ExportItem) (x : X) (other : ExportItem) → is_some (look_up item_order es other) ≡ true
      → is_some (look_up item_order (insert_entry item_order es item x) other) ≡ true
  put_keeps es item x other h = ap is_some (look_up_inserted item_order item_order_total es item x other) ∙ by (eq_by_cmp item_order other item)
    where
      by : (b : Bool) → is_some (cond b (Some x) (look_up item_order es other)) ≡ true
      by true = refl
      by false = h

  -- what holds of the items of a map and of one more holds of those of both
  put_all : (P : ExportItem → Type 0) (es : List (ExportItem × X)) (item : ExportItem) (x : X) → AllItems P es → P item
      → AllItems P (insert_entry item_order es item x)
  put_all P [] item x h k = (k, tt)
  put_all P (e ∷ es) item x h k = by (item_order item e.0) (put_all P es item x h.1 k)
    where
      by : (o : Ordering) → AllItems P (insert_entry item_order es item x)
          → AllItems P (match_ordering o ((item, x) ∷ e ∷ es) ((e.0, x) ∷ es) (e ∷ insert_entry item_order es item x))
      by Less rest = (k, h)
      by Equal rest = h
      by Greater rest = (h.0, rest)

-- ---- the set of items

set_keeps : (asked : List ExportItem) (es : List (ExportItem × Unit {0})) (item : ExportItem) → is_some (look_up item_order es item) ≡ true
    → is_some (look_up item_order (fold with_item es asked) item) ≡ true
set_keeps [] es item h = h
set_keeps (x ∷ asked) es item h = set_keeps asked (with_item es x) item (put_keeps es x tt item h)

set_has : (asked : List ExportItem) (es : List (ExportItem × Unit {0})) (item : ExportItem) → IsIn item asked
    → is_some (look_up item_order (fold with_item es asked) item) ≡ true
set_has [] es item at = absurd at
set_has (x ∷ asked) es item (inl same) =
    set_keeps asked (with_item es x) item (subst (λ (y : ExportItem). is_some (look_up item_order (with_item es y) item) ≡ true) same (put_there es item tt))
set_has (x ∷ asked) es item (inr at) = set_has asked (with_item es x) item at

set_all : (P : ExportItem → Type 0) (asked : List ExportItem) (es : List (ExportItem × Unit {0})) → AllItems P es → ((item : ExportItem) → IsIn item asked → P item)
    → AllItems P (fold with_item es asked)
set_all P [] es h k = h
set_all P (x ∷ asked) es h k = set_all P asked (with_item es x) (put_all P es x tt h (k x (inl refl))) (λ item at. k item (inr at))

-- ---- the named items

module _ (m : Contents) where
  -- an item that is named goes on as the one that it is
  named_keys : (bound : TextSet) (es : List (ExportItem × Unit {0})) (item : ExportItem)
      → is_some (look_up item_order (named_items m bound es) item) ≡ is_some (look_up item_order es item)
  named_keys bound [] item = refl
  named_keys bound (e ∷ es) item = by (eq_by_cmp item_order item e.0) (named_keys (bound_with m bound e.0) es item)
    where
      by : (b : Bool) → is_some (look_up item_order (named_items m (bound_with m bound e.0) es) item) ≡ is_some (look_up item_order es item)
          → is_some (cond b (Some (item_name m bound e.0)) (look_up item_order (named_items m (bound_with m bound e.0) es) item))
          ≡ is_some (cond b (Some e.1) (look_up item_order es item))
      by true h = refl
      by false h = h

  -- what holds of items holds of them with their names
  named_all : (P : ExportItem → Type 0) (bound : TextSet) (es : List (ExportItem × Unit {0})) → AllItems P es → AllItems P (named_items m bound es)
  named_all P bound [] h = tt
  named_all P bound (e ∷ es) h = (h.0, named_all P (bound_with m bound e.0) es h.1)

  -- an item has the name of its export, or no export gives it
  abbrev IsRight : ExportItem × List ℕ → Type 0
  IsRight e = (export_of e.0 m.exports ≡ Some e.1) ⊎ (export_of e.0 m.exports ≡ None)

  name_right : (bound : TextSet) (item : ExportItem) → IsRight (item, item_name m bound item)
  name_right bound item = by (export_of item m.exports) refl
    where
      by : (o : Option (List ℕ)) → export_of item m.exports ≡ o → IsRight (item, item_name m bound item)
      by (Some name) q = inl (q ∙ ap Some (sym (ap (λ (o : Option (List ℕ)). unwrap_or o (fresh_name bound (to_ident (wanted_export m item)))) q)))
      by None q = inr q

  named_right : (bound : TextSet) (es : List (ExportItem × Unit {0})) (e : ExportItem × List ℕ) → IsIn e (named_items m bound es) → IsRight e
  named_right bound [] e at = absurd at
  named_right bound (x ∷ es) e (inl same) = subst IsRight (sym same) (name_right bound x.0)
  named_right bound (x ∷ es) e (inr at) = named_right (bound_with m bound x.0) es e at

  -- one name more is bound, or none
  grown_with : (bound : TextSet) (item : ExportItem) → set.len (bound_with m bound item) ≤ set.len bound + 1
  grown_with bound item = by (export_of item m.exports)
    where
      by : (o : Option (List ℕ))
          → set.len (cond (is_some o) bound (set.insert bound (unwrap_or o (fresh_name bound (to_ident (wanted_export m item)))))) ≤ set.len bound + 1
      by (Some name) = omega arith
      by None = grown_by_one bound (fresh_name bound (to_ident (wanted_export m item)))

  -- those that are added have new names
  named_fresh : (bound : TextSet) (es : List (ExportItem × Unit {0})) → 2 + set.len bound + length es < 2 ^ 64
      → AreFresh bound (flat_map (added m.exports) (named_items m bound es))
  named_fresh bound [] few = tt
  named_fresh bound (e ∷ es) few =
      let grown = grown_with bound e.0 in
      by (export_of e.0 m.exports) (named_fresh (bound_with m bound e.0) es (omega (arith, few, grown)))
    where
      by : (o : Option (List ℕ))
          → AreFresh (cond (is_some o) bound (set.insert bound (unwrap_or o (fresh_name bound (to_ident (wanted_export m e.0))))))
          (flat_map (added m.exports) (named_items m (cond (is_some o) bound (set.insert bound (unwrap_or o (fresh_name bound (to_ident (wanted_export m e.0)))))) es))
          → AreFresh bound (cond (is_some o) [] ((unwrap_or o (fresh_name bound (to_ident (wanted_export m e.0))), e.0) ∷ [])
          ++ flat_map (added m.exports) (named_items m (cond (is_some o) bound (set.insert bound (unwrap_or o (fresh_name bound (to_ident (wanted_export m e.0)))))) es))
      by (Some name) h = h
      by None h = (fresh_new bound (to_ident (wanted_export m e.0)) (omega (arith, few)), h)

  pub added_fresh : (bound : TextSet) (es : List (ExportItem × Unit {0})) (named : List (ExportItem × List ℕ)) → 2 + set.len bound + length es < 2 ^ 64
      → named ≡ named_items m bound es → AreFresh bound (flat_map (added m.exports) named)
  added_fresh bound es named few is =
      subst (λ (ns : List (ExportItem × List ℕ)). AreFresh bound (flat_map (added m.exports) ns)) (sym is) (named_fresh bound es few)

-- an export stands that has this name, and gives this item
pub record IsExportAmong (exports : List (Option Export)) (name : List ℕ) (item : ExportItem) : Type 0 where
  pub «export» : Export
  pub among : IsIn (Some «export») exports
  pub named : «export».name ≡ name
  pub gives : «export».item ≡ item

later_export : (x : Option Export) (exports : List (Option Export)) (name : List ℕ) (item : ExportItem) → IsExportAmong exports name item
    → IsExportAmong (x ∷ exports) name item
later_export x exports name item h = record { «export» = h.«export»; among = inr h.among; named = h.named; gives = h.gives }

-- the export whose name is found is one
export_found : (item : ExportItem) (exports : List (Option Export)) (name : List ℕ) → export_of item exports ≡ Some name → IsExportAmong exports name item
export_found item [] name e = cc
export_found item (None ∷ exports) name e = later_export None exports name item (export_found item exports name e)
export_found item (Some x ∷ exports) name e = by (gives item (Some x)) refl e (export_found item exports name)
  where
    by : (b : Bool) → gives item (Some x) ≡ b → cond b (Some x.name) (export_of item exports) ≡ Some name
        → (export_of item exports ≡ Some name → IsExportAmong exports name item) → IsExportAmong (Some x ∷ exports) name item
    by true q h go = record { «export» = x; among = inl refl; named = some_is x.name name h; gives = item_same x.item item q }
    by false q h go = later_export (Some x) exports name item (go h)

-- its name is among those of all
export_listed : (exports : List (Option Export)) (e : Export) → IsIn (Some e) exports → IsIn e.name (filter_map export_name exports)
export_listed [] e at = absurd at
export_listed (None ∷ exports) e (inl same) = cc
export_listed (None ∷ exports) e (inr at) = export_listed exports e at
export_listed (Some x ∷ exports) e (inl same) = inl (ap (λ (y : Export). y.name) (some_is e x same))
export_listed (Some x ∷ exports) e (inr at) = inr (export_listed exports e at)

-- ---- the map of named items

map_keeps : (named es : List (ExportItem × List ℕ)) (item : ExportItem) → is_some (look_up item_order es item) ≡ true
    → is_some (look_up item_order (fold put_named es named) item) ≡ true
map_keeps [] es item h = h
map_keeps (e ∷ named) es item h = map_keeps named (put_named es e) item (put_keeps es e.0 e.1 item h)

map_has : (named es : List (ExportItem × List ℕ)) (item : ExportItem) → is_some (look_up item_order named item) ≡ true
    → is_some (look_up item_order (fold put_named es named) item) ≡ true
map_has [] es item h = absurd (true≢false (sym h))
map_has (e ∷ named) es item h = by (eq_by_cmp item_order item e.0) refl h (map_has named (put_named es e) item)
  where
    by : (b : Bool) → eq_by_cmp item_order item e.0 ≡ b → is_some (cond b (Some e.1) (look_up item_order named item)) ≡ true
        → (is_some (look_up item_order named item) ≡ true → is_some (look_up item_order (fold put_named (put_named es e) named) item) ≡ true)
        → is_some (look_up item_order (fold put_named (put_named es e) named) item) ≡ true
    by true q k go = map_keeps named (put_named es e) item (
        ap is_some (look_up_inserted item_order item_order_total es e.0 e.1 item)
        ∙ ap (λ (c : Bool). is_some (cond c (Some e.1) (look_up item_order es item))) q)
    by false q k go = go k

-- what the map answers for an item is the name that it was given
map_from : (named es : List (ExportItem × List ℕ)) (item : ExportItem) (name : List ℕ) → look_up item_order (fold put_named es named) item ≡ Some name
    → IsIn (item, name) named ⊎ (look_up item_order es item ≡ Some name)
map_from [] es item name h = inr h
map_from (e ∷ named) es item name h = elim (map_from named (put_named es e) item name h) [
  | inl later ↦ inl (inr later)
  | inr there ↦ by (eq_by_cmp item_order item e.0) refl (sym (look_up_inserted item_order item_order_total es e.0 e.1 item) ∙ there)
]
  where
    by : (b : Bool) → eq_by_cmp item_order item e.0 ≡ b → cond b (Some e.1) (look_up item_order es item) ≡ Some name
        → IsIn (item, name) (e ∷ named) ⊎ (look_up item_order es item ≡ Some name)
    by true same q = inl (inl (
        ap (λ (x : ExportItem). (x, name)) (item_same item e.0 same) ∙ ap (λ (n : List ℕ). (e.0, n)) (sym (some_is e.1 name q))))
    by false same q = inr q

-- ---- the items of a description

module _ (s : Settings) (l : Lowered) where
  abbrev own : List ℕ
  own = own_imports s l.«module» l.wit l.aux

  abbrev named : List (ExportItem × List ℕ)
  named = item_names s l

  -- the names that the module exports under, once those of items are added
  abbrev pub names_with_added : List (List ℕ)
  names_with_added = export_names l.«module» ++ map (λ (e : List ℕ × ExportItem). e.0) (added_exports s l)

  -- those that the adapters of own imports and of closures that are used ask for
  abbrev others : List ExportItem
  others = flat_map (pair_asks s own l) l.wit.implements ++ flat_map (closure_asks s l) (used_closures s l)

  -- what an instruction of an adapter that becomes a function asks for is asked for
  pub printed_asked : (i : Instruction) (item : ExportItem) → IsIn i (printed_code s l) → IsIn item (instruction_asks s l i) → IsIn item (asked_items s l)
  printed_asked i item at asks = in_left item (adapters_ask s l) (handing_asks s l) (elim (in_either i (outer_code s l) (flat_map (code_by l) (used_closures s l)) at) [
    | inl outer ↦ by_outer (in_either i (flat_map (export_code l) l.aux.exports) (flat_map (pair_code own l) l.wit.implements) outer)
    | inr third ↦
        let c = from_flat (code_by l) (used_closures s l) i third in
        in_right item (flat_map (export_asks s l) l.aux.exports) others
        (in_right item (flat_map (pair_asks s own l) l.wit.implements) (flat_map (closure_asks s l) (used_closures s l))
        (in_flat (closure_asks s l) (used_closures s l) c.0 item c.1 (in_flat (instruction_asks s l) (code_by l c.0) i item c.2 asks)))
  ])
    where
      by_outer : IsIn i (flat_map (export_code l) l.aux.exports) ⊎ IsIn i (flat_map (pair_code own l) l.wit.implements) → IsIn item (adapters_ask s l)
      by_outer (inl first) =
          let e = from_flat (export_code l) l.aux.exports i first in
          in_left item (flat_map (export_asks s l) l.aux.exports) others
          (in_flat (export_asks s l) l.aux.exports e.0 item e.1 (in_flat (instruction_asks s l) (export_code l e.0) i item e.2 asks))
      by_outer (inr second) =
          let p = from_flat (pair_code own l) l.wit.implements i second in
          in_right item (flat_map (export_asks s l) l.aux.exports) others
          (in_left item (flat_map (pair_asks s own l) l.wit.implements) (flat_map (closure_asks s l) (used_closures s l))
          (in_flat (pair_asks s own l) l.wit.implements p.0 item p.1 (in_flat (instruction_asks s l) (pair_code own l p.0) i item p.2 asks)))

  -- what an import throws is handed to a function that is asked for, where it is caught
  pub store_asked : (item : ExportItem) → catches s l ≡ true → store_item l ≡ Some item → IsIn item (asked_items s l)
  store_asked item caught e =
      in_right item (adapters_ask s l) (handing_asks s l)
      (rw caught (in_left item (listed (store_item l)) (needed_items s l handing) (rw e (inl refl))))

  -- so is what an instruction takes that the glue file goes by
  pub needed_asked : (i : Instruction) (item : ExportItem) → IsOfGlue s l i → IsIn item (needed_items s l i) → IsIn item (asked_items s l)
  needed_asked i item (inl at) needed = printed_asked i item at (in_right item (called_item l i) (needed_items s l i) needed)
  needed_asked i item (inr hands) needed =
      in_right item (adapters_ask s l) (handing_asks s l) (rw hands.0 (in_right item (listed (store_item l)) (needed_items s l handing)
      (subst (λ (x : Instruction). IsIn item (needed_items s l x)) hands.1 needed)))

  -- an item that a described import gives is asked for, where an adapter of an own import calls it
  pub item_asked : (id : ℕ) (w : AuxImport) (item : ExportItem) → has_number id (own_callees s l) ≡ true → entry_of id l.aux.imports ≡ Some w
      → given_item l w ≡ Some item → IsIn item (asked_items s l)
  item_asked id w item mine is given =
      let pair = from_flat (pair_callees own l) l.wit.implements id (number_in id (own_callees s l) mine) in
      let code = code_by l pair.0.1 in
      let call = in_where id (filter_map callee code) (has_number pair.0.0.0 own) pair.2 in
      let step = from_part callee id code call.0 in
      let there : IsIn item (called_item l step.0) =
      subst (λ (x : Instruction). IsIn item (called_item l x)) (sym (callee_is step.0 id step.2))
      (subst (λ (o : Option AuxImport). IsIn item (listed (option_and_then (given_item l) o))) (sym is)
      (subst (λ (o : Option ExportItem). IsIn item (listed o)) (sym given) (inl refl))) in
      let at = in_right step.0 (flat_map (export_code l) l.aux.exports) (flat_map (pair_code own l) l.wit.implements)
      (in_flat (pair_code own l) l.wit.implements pair.0 step.0 pair.1 (where_true step.0 code (has_number pair.0.0.0 own) call.1 step.1)) in
      printed_asked step.0 item (in_left step.0 (outer_code s l) (flat_map (code_by l) (used_closures s l)) at) (in_left item (called_item l step.0) (needed_items s l step.0) there)

  -- an export of the module gives an item under this name, or one that is added does
  abbrev pub IsGivenAs : ExportItem → List ℕ → Type 0
  IsGivenAs item name = IsExportAmong l.«module».exports name item ⊎ IsIn (name, item) (added_exports s l)

  -- that name is among those under which the module exports then
  pub given_listed : (item : ExportItem) (name : List ℕ) → IsGivenAs item name → IsIn name names_with_added
  given_listed item name (inl h) =
      in_left name (export_names l.«module») (map (λ (x : List ℕ × ExportItem). x.0) (added_exports s l))
      (subst (λ (n : List ℕ). IsIn n (export_names l.«module»)) h.named (export_listed l.«module».exports h.«export» h.among))
  given_listed item name (inr at) =
      in_right name (export_names l.«module») (map (λ (x : List ℕ × ExportItem). x.0) (added_exports s l))
      (in_map (λ (x : List ℕ × ExportItem). x.0) (name, item) (added_exports s l) at)

  -- the name that an item was given is such a one
  pub name_given : (item : ExportItem) (name : List ℕ) → look_up item_order (item_map named) item ≡ Some name → IsGivenAs item name
  unfolding item_names
  name_given item name e = elim (map_from named [] item name e) [
    | inl there ↦ given there (named_right l.«module» (bound_exports l) (each_item (asked_items s l)) (item, name) there)
    | inr none ↦ cc
  ]
    where
      given : IsIn (item, name) named → IsRight l.«module» (item, name) → IsGivenAs item name
      given at (inl is) = inl (export_found item l.«module».exports name is)
      given at (inr none) =
          let here : IsIn {A = List ℕ × ExportItem} (name, item) (added l.«module».exports (item, name)) =
          subst (λ (o : Option (List ℕ)). IsIn {A = List ℕ × ExportItem} (name, item) (cond (is_some o) [] ((name, item) ∷ []))) (sym none) (inl refl) in
          inr (in_flat (added l.«module».exports) named (item, name) (name, item) at here)

  -- an item that is asked for has a name
  pub item_named : (item : ExportItem) → IsIn item (asked_items s l)
      → (name : List ℕ) × ((look_up item_order (item_map named) item ≡ Some name) × IsGivenAs item name)
  unfolding item_names
  item_named item at =
      let set = each_item (asked_items s l) in
      let there = named_keys l.«module» (bound_exports l) set item ∙ set_has (asked_items s l) [] item at in
      let found = some_of (look_up item_order (item_map named) item) (map_has named [] item there) in
      (found.0, (found.1, name_given item found.0 found.1))

  -- a live item stands
  listed_live : (item : ExportItem) (o : Option ExportItem) → IsIn item (listed (live_item l.«module» o)) → is_live_item l.«module» item ≡ true
  listed_live item None at = absurd at
  listed_live item (Some x) at = one (is_live_item l.«module» x) refl at
    where
      one : (b : Bool) → is_live_item l.«module» x ≡ b → IsIn item (listed (cond b (Some x) None)) → is_live_item l.«module» item ≡ true
      one true q (inl same) = ap (is_live_item l.«module») same ∙ q
      one true q (inr none) = absurd none
      one false q at = absurd at

  -- each item that is asked for stands
  called_live : (x : Instruction) (item : ExportItem) → IsIn item (called_item l x) → is_live_item l.«module» item ≡ true
  called_live (instr.CallAdapter id) item at = by (entry_of id l.aux.imports) at
    where
      by : (o : Option AuxImport) → IsIn item (listed (option_and_then (given_item l) o)) → is_live_item l.«module» item ≡ true
      by None at = absurd at
      by (Some (what.Intrinsic name)) at = listed_live item (named_item l name) at
      by (Some other) at = absurd at
  called_live other item at = absurd at

  -- what is kept of items stands
  kept_live : (xs : List ExportItem) (item : ExportItem) → IsIn item (filter (is_live_item l.«module») xs) → is_live_item l.«module» item ≡ true
  kept_live [] item at = absurd at
  kept_live (x ∷ xs) item at = by (is_live_item l.«module» x) refl (kept_live xs item) at
    where
      by : (b : Bool) → is_live_item l.«module» x ≡ b → (IsIn item (filter (is_live_item l.«module») xs) → is_live_item l.«module» item ≡ true)
          → IsIn item (cond b (x ∷ filter (is_live_item l.«module») xs) (filter (is_live_item l.«module») xs))
          → is_live_item l.«module» item ≡ true
      by true q rest (inl same) = ap (is_live_item l.«module») same ∙ q
      by true q rest (inr later) = rest later
      by false q rest later = rest later

  asks_live : (i : Instruction) (item : ExportItem) → IsIn item (instruction_asks s l i) → is_live_item l.«module» item ≡ true
  asks_live i item at = elim (in_either item (called_item l i) (needed_items s l i) at) [
    | inl called ↦ called_live i item called
    | inr needed ↦ kept_live (named_by s.externref l.aux i) item needed
  ]

  code_live : (code : List Instruction) (item : ExportItem) → IsIn item (code_asks s l code) → is_live_item l.«module» item ≡ true
  code_live code item at = let step = from_flat (instruction_asks s l) code item at in asks_live step.0 item step.2

  adapters_live : (item : ExportItem) → IsIn item (adapters_ask s l) → is_live_item l.«module» item ≡ true
  adapters_live item at = elim (in_either item (flat_map (export_asks s l) l.aux.exports) others at) [
    | inl first ↦ let e = from_flat (export_asks s l) l.aux.exports item first in code_live (export_code l e.0) item e.2
    | inr later ↦ by (in_either item (flat_map (pair_asks s own l) l.wit.implements) (flat_map (closure_asks s l) (used_closures s l)) later)
  ]
    where
      by : IsIn item (flat_map (pair_asks s own l) l.wit.implements) ⊎ IsIn item (flat_map (closure_asks s l) (used_closures s l))
          → is_live_item l.«module» item ≡ true
      by (inl second) = let p = from_flat (pair_asks s own l) l.wit.implements item second in code_live (pair_code own l p.0) item p.2
      by (inr third) = let c = from_flat (closure_asks s l) (used_closures s l) item third in code_live (code_by l c.0) item c.2

  handing_live : (item : ExportItem) → IsIn item (handing_asks s l) → is_live_item l.«module» item ≡ true
  handing_live item = by (catches s l)
    where
      by : (b : Bool) → IsIn item (cond b (listed (store_item l) ++ needed_items s l handing) []) → is_live_item l.«module» item ≡ true
      by false at = absurd at
      by true at = elim (in_either item (listed (store_item l)) (needed_items s l handing) at) [
        | inl store ↦ listed_live item (exception_store l.aux) store
        | inr needed ↦ kept_live (named_by s.externref l.aux handing) item needed
      ]

  asked_live : (item : ExportItem) → IsIn item (asked_items s l) → is_live_item l.«module» item ≡ true
  asked_live item at = elim (in_either item (adapters_ask s l) (handing_asks s l) at) [
    | inl adapters ↦ adapters_live item adapters
    | inr handed ↦ handing_live item handed
  ]

  -- so does each that is exported besides
  pub added_live : (e : List ℕ × ExportItem) → IsIn e (added_exports s l) → is_live_item l.«module» e.1 ≡ true
  unfolding item_names
  added_live e at =
      let r = from_flat (added l.«module».exports) named e at in
      let all = named_all l.«module» (λ (item : ExportItem). is_live_item l.«module» item ≡ true) (bound_exports l) (each_item (asked_items s l))
      (set_all (λ (item : ExportItem). is_live_item l.«module» item ≡ true) (asked_items s l) [] tt asked_live) in
      by (is_some (export_of r.0.0 l.«module».exports)) r.0 (one_of named r.0 all r.1) r.2
    where
      one_of : (es : List (ExportItem × List ℕ)) (x : ExportItem × List ℕ) → AllItems (λ (item : ExportItem). is_live_item l.«module» item ≡ true) es → IsIn x es
          → is_live_item l.«module» x.0 ≡ true
      one_of [] x h at = absurd at
      one_of (y ∷ es) x h (inl same) = ap (λ (z : ExportItem × List ℕ). is_live_item l.«module» z.0) same ∙ h.0
      one_of (y ∷ es) x h (inr at) = one_of es x h.1 at

      by : (b : Bool) (x : ExportItem × List ℕ) → is_live_item l.«module» x.0 ≡ true → IsIn e (cond b [] ((x.1, x.0) ∷ []))
          → is_live_item l.«module» e.1 ≡ true
      by true x h at = absurd at
      by false x h (inl same) = ap (λ (y : List ℕ × ExportItem). is_live_item l.«module» y.1) same ∙ h
      by false x h (inr none) = absurd none
