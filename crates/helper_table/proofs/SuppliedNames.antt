-- The names that helpers bind, by their numbers; those of helpers that are supplied are provided.
use Rattle.std.proofs.Common.{◌≡◌, ℕ, ◌+◌, ◌<◌, ◌^◌, List, [], ◌∷◌, ◌++◌, map, Bool, true, false, inl, inr, refl, sym, ap, ◌∙◌, subst, cond, take, drop}
use Rattle.std.specs.Prelude.{Option, Some, None, nat_eq, nat_lt, codes, slice_get, slice_index_or}
use Rattle.std.specs.List.{list_all, list_any}
use Rattle.std.specs.Cmp.Lexicographic.{pointwise}
use Rattle.std.proofs.lemmas.Bool.{agree_below_at, eq-eqb}
use Rattle.values.specs.Lists.{IsIn}
use Rattle.glue_words.specs.declared.item.Item.{Item}
use Rattle.glue_words.specs.Names.{bound_in}
use Rattle.glue_heap.specs.HeapKeys.{heap_name}
use Rattle.glue_heap.proofs.HeapFacts.{heap_bound}
use Rattle.glue_helpers.specs.declared.closures.ClosureHelper.{ClosureHelper}
use Rattle.glue_helpers.specs.declared.closures.ClosureHelper.TheVariants as closure
use Rattle.glue_helpers.specs.declared.plain.PlainHelper.{PlainHelper}
use Rattle.glue_helpers.specs.declared.plain.PlainHelper.TheVariants as plain
use Rattle.glue_helpers.specs.Closures.{closure_item, closure_names}
use Rattle.glue_helpers.specs.Numbered.{array_view_name, array_cache_name, data_view_name, data_cache_name, get_array_name, pass_array_name, get_string_name, pass_string_name, get_values_name, pass_values_name, add_name, get_name, take_name}
use Rattle.glue_helpers.specs.Plain.{plain_item, names_of}
use Rattle.glue_helpers.proofs.ArrayTexts.{get_array_holds, pass_array_holds, get_by_table_holds, get_by_heap_holds, pass_by_table_holds, pass_by_heap_holds}
use Rattle.glue_helpers.proofs.ClosureTexts.{closure_holds}
use Rattle.glue_helpers.proofs.ErrorTexts.{by_table_holds, by_heap_holds}
use Rattle.glue_helpers.proofs.PlainTexts.{plain_holds}
use Rattle.glue_helpers.proofs.ReferenceTexts.{add_to_table_holds, get_from_table_holds, take_from_table_holds}
use Rattle.glue_helpers.proofs.StringTexts.{get_string_holds, pass_string_holds}
use Rattle.glue_helpers.proofs.ViewTexts.{array_view_holds, data_view_holds}
use Rattle.helper_table.specs.declared.parts.EncoderForm.{EncoderForm}
use Rattle.helper_table.specs.declared.parts.EncoderForm.TheVariants as encoder
use Rattle.helper_table.specs.declared.parts.TableExport.{TableExport}
use Rattle.helper_table.specs.declared.parts.HelperParts.{HelperParts}
use Rattle.helper_table.specs.declared.kinds.Single.{Single}
use Rattle.helper_table.specs.declared.kinds.Single.TheVariants as single
use Rattle.helper_table.specs.declared.kinds.MemoryHelper.{MemoryHelper}
use Rattle.helper_table.specs.declared.kinds.MemoryHelper.TheVariants as memory
use Rattle.helper_table.specs.declared.kinds.TableHelper.{TableHelper}
use Rattle.helper_table.specs.declared.kinds.TableHelper.TheVariants as table
use Rattle.helper_table.specs.declared.kinds.Family.{Family}
use Rattle.helper_table.specs.declared.kinds.Family.TheVariants as family
use Rattle.helper_table.specs.declared.kinds.TheConstants.{SINGLES, SINGLE, FAMILIES, FAMILY, FAMILY_BINDS}
use Rattle.helper_table.specs.Names.{printed, single_name, family_names, family_stem_at, family_name, family_owner}
use Rattle.helper_table.specs.Made.{single_item, family_item, memory_item, table_item, single_at, family_at, is_there, formed, decoder_form, encoder_form, closure_made, error_handled, values_got, values_passed, added, taken, of_memory, of_table}
use Rattle.helper_table.specs.Told.{Rows, row_at, before}
use Rattle.helper_table.specs.Laws.{any_in, owner_below}
use Rattle.helper_table.proofs.HeldItems.{none_some, some_is}
use Rattle.helper_table.proofs.Supplies.{IsProvided, single_ready, family_ready, of_memory_given, of_table_given, single_provides, family_provides}

-- an item that is there
pub there_item : (o : Option Item) → is_there o ≡ true → (item : Item) × (o ≡ Some item)
there_item None h = cc
there_item (Some item) h = (item, refl)

-- the item that is there declares what is told of it
binds_so : (made item : Item) (names : List (List ℕ)) → Some made ≡ Some item → bound_in made.words ≡ names → bound_in item.words ≡ names
binds_so made item names e h = ap (λ (i : Item). bound_in i.words) (some_is item made (sym e)) ∙ h

-- ---- helpers without a place: the first name of each

-- the first of names
abbrev first_name : List (List ℕ) → List ℕ
first_name names = slice_index_or names 0 []

-- the first name of a helper without a place
abbrev single_first : Single → List ℕ
single_first (single.Heap k) = heap_name k
single_first (single.Plain h) = first_name (names_of h).binds
single_first (single.Closure h) = first_name (closure_names h []).binds
single_first single.HandleError = codes "handleError"

-- each form of the decoder has the same first name
decoder_first : (b : Bool) → IsIn (codes "cachedTextDecoder") (names_of (decoder_form b)).binds
decoder_first true = inl refl
decoder_first false = inl refl

-- so has each form of the encoder
encoder_first : (form : EncoderForm) → IsIn (codes "cachedTextEncoder") (names_of (encoder_form form)).binds
encoder_first encoder.Own = inl refl
encoder_first encoder.Tested = inl refl
encoder_first encoder.Copying = inl refl

-- and each form of a helper without stand-ins
plain_first : (parts : HelperParts) (h : PlainHelper) → IsIn (first_name (names_of h).binds) (names_of (formed parts h)).binds
plain_first parts plain.TextDecoder = decoder_first parts.browser
plain_first parts plain.TextEncoder = encoder_first parts.encoder
plain_first parts other = inl refl

-- a helper for closures has one name, whatever its export is
closure_first : (h : ClosureHelper) (destroy : List ℕ) → IsIn (first_name (closure_names h []).binds) (closure_names h destroy).binds
closure_first closure.ClosureFinalization destroy = inl refl
closure_first closure.MakeClosure destroy = inl refl
closure_first closure.MakeMutClosure destroy = inl refl

-- the item that is there binds each name that is told of it
in_bound : (made item : Item) (names : List (List ℕ)) (name : List ℕ) → Some made ≡ Some item → bound_in made.words ≡ names → IsIn name names
    → IsIn name (bound_in item.words)
in_bound made item names name e h at = subst (λ (ns : List (List ℕ)). IsIn name ns) (sym (binds_so made item names e h)) at

-- a helper for closures binds its name, where it is there
closure_binds : (h : ClosureHelper) (o : Option (List ℕ)) (item : Item) → closure_made h o ≡ Some item
    → IsIn (first_name (closure_names h []).binds) (bound_in item.words)
closure_binds h None item e = absurd (none_some item e)
closure_binds h (Some destroy) item e =
    in_bound (closure_item h destroy) item (closure_names h destroy).binds _ e (closure_holds destroy h).binds (closure_first h destroy)

-- so does the helper that hands on what was thrown
error_binds : (through : Bool) (t : Option TableExport) (o : Option (List ℕ)) (item : Item) → error_handled through t o ≡ Some item
    → IsIn (codes "handleError") (bound_in item.words)
error_binds through t None item e = absurd (none_some item e)
error_binds true None (Some store) item e = absurd (none_some item e)
error_binds true (Some t) (Some store) item e = in_bound _ item _ _ e (by_table_holds store t.place).binds (inl refl)
error_binds false t (Some store) item e = in_bound _ item _ _ e (by_heap_holds store).binds (inl refl)

-- and each helper without a place
single_binds : (parts : HelperParts) (x : Single) (item : Item) → single_item parts x ≡ Some item → IsIn (single_first x) (bound_in item.words)
single_binds parts (single.Heap k) item e = in_bound _ item _ _ e (heap_bound k parts.debug) (inl refl)
single_binds parts (single.Plain h) item e =
    in_bound (plain_item (formed parts h)) item (names_of (formed parts h)).binds _ e (plain_holds (formed parts h)).binds (plain_first parts h)
single_binds parts (single.Closure h) item e = closure_binds h parts.destroy_closure item e
single_binds parts single.HandleError item e = error_binds parts.externref parts.table parts.exn_store item e

-- it is that of the list
abbrev FirstRow : ℕ → Single → Type 0
FirstRow i x = single_first x ≡ single_name i

-- the first names are those of the list, in its order
first_rows : Rows FirstRow SINGLE
unfolding Rows
first_rows =
    before refl (before refl (before refl (before refl (before refl (before refl (before refl (before refl (before refl (before refl (before refl
    (before refl (before refl (before refl (before refl (before refl (before refl (before refl (before refl (before refl (before refl (before refl
    (before refl (before refl (before refl tt))))))))))))))))))))))))

-- ---- helpers with a place: all names of each

-- the names of a helper that goes by a memory
abbrev memory_names : MemoryHelper → ℕ → List (List ℕ)
memory_names (memory.ArrayView e) n = array_cache_name e n ∷ array_view_name e n ∷ []
memory_names memory.DataView n = data_cache_name n ∷ data_view_name n ∷ []
memory_names (memory.GetArray e) n = get_array_name e n ∷ []
memory_names (memory.PassArray w) n = pass_array_name w n ∷ []
memory_names memory.GetString n = get_string_name n ∷ []
memory_names memory.PassString n = pass_string_name n ∷ []
memory_names memory.GetValues n = get_values_name n ∷ []
memory_names memory.PassValues n = pass_values_name n ∷ []

-- and of any helper with a place
abbrev kind_names : Family → ℕ → List (List ℕ)
kind_names (family.Memory m) n = memory_names m n
kind_names (family.Table table.Add) n = add_name n ∷ []
kind_names (family.Table table.Get) n = get_name n ∷ []
kind_names (family.Table table.Take) n = take_name n ∷ []

-- what gives arrays of values declares its name, where it is there
got_binds : (through : Bool) (t : Option TableExport) (o : Option (List ℕ)) (n : ℕ) (item : Item) → values_got through t o n ≡ Some item
    → bound_in item.words ≡ get_values_name n ∷ []
got_binds false t o n item e = binds_so _ item _ e (get_by_heap_holds n).binds
got_binds true None o n item e = absurd (none_some item e)
got_binds true (Some t) None n item e = absurd (none_some item e)
got_binds true (Some t) (Some free) n item e = binds_so _ item _ e (get_by_table_holds n t.name free).binds

-- so does what passes them
passed_binds : (through : Bool) (t : Option TableExport) (n : ℕ) (item : Item) → values_passed through t n ≡ Some item
    → bound_in item.words ≡ pass_values_name n ∷ []
passed_binds false t n item e = binds_so _ item _ e (pass_by_heap_holds n).binds
passed_binds true None n item e = absurd (none_some item e)
passed_binds true (Some t) n item e = binds_so _ item _ e (pass_by_table_holds n t.place).binds

-- each helper that goes by a memory declares its names, where it is there
memory_binds : (parts : HelperParts) (m : MemoryHelper) (n : ℕ) (export : List ℕ) (item : Item) → memory_item parts m n export ≡ Some item
    → bound_in item.words ≡ memory_names m n
memory_binds parts (memory.ArrayView k) n export item e = binds_so _ item _ e (array_view_holds n export k).binds
memory_binds parts memory.DataView n export item e = binds_so _ item _ e (data_view_holds n export).binds
memory_binds parts (memory.GetArray k) n export item e = binds_so _ item _ e (get_array_holds k n).binds
memory_binds parts (memory.PassArray w) n export item e = binds_so _ item _ e (pass_array_holds w n).binds
memory_binds parts memory.GetString n export item e = binds_so _ item _ e (get_string_holds n).binds
memory_binds parts memory.PassString n export item e = binds_so _ item _ e (pass_string_holds n parts.debug).binds
memory_binds parts memory.GetValues n export item e = got_binds parts.externref parts.table parts.externref_drop_slice n item e
memory_binds parts memory.PassValues n export item e = passed_binds parts.externref parts.table n item e

-- so does what adds to the table
added_binds : (n : ℕ) (export : List ℕ) (o : Option (List ℕ)) (item : Item) → added n export o ≡ Some item → bound_in item.words ≡ add_name n ∷ []
added_binds n export None item e = absurd (none_some item e)
added_binds n export (Some allocate) item e = binds_so _ item _ e (add_to_table_holds n export allocate).binds

-- what takes out of it
taken_binds : (n : ℕ) (export : List ℕ) (o : Option (List ℕ)) (item : Item) → taken n export o ≡ Some item → bound_in item.words ≡ take_name n ∷ []
taken_binds n export None item e = absurd (none_some item e)
taken_binds n export (Some free) item e = binds_so _ item _ e (take_from_table_holds n export free).binds

-- each helper that goes by the table
table_binds : (parts : HelperParts) (k : TableHelper) (n : ℕ) (export : List ℕ) (item : Item) → table_item parts k n export ≡ Some item
    → bound_in item.words ≡ kind_names (family.Table k) n
table_binds parts table.Add n export item e = added_binds n export parts.externref_alloc item e
table_binds parts table.Get n export item e = binds_so _ item _ e (get_from_table_holds n export).binds
table_binds parts table.Take n export item e = taken_binds n export parts.externref_drop item e

-- and any with a place
kind_binds : (parts : HelperParts) (f : Family) (n : ℕ) (item : Item) → family_item parts f n ≡ Some item → bound_in item.words ≡ kind_names f n
kind_binds parts (family.Memory m) n item e =
    let g = of_memory_given (λ export. memory_item parts m n export) (slice_get parts.memories n) item e in memory_binds parts m n g.0 item g.1.1
kind_binds parts (family.Table k) n item e =
    let g = of_table_given (λ export. table_item parts k n export) n parts.table item e in table_binds parts k n g.0.name item g.1.2

-- the names of helpers that go by a memory, and of those that go by the table, without its place
abbrev pub memory_stems : List (List ℕ)
memory_stems = take 25 family_names ++ drop 28 family_names

abbrev pub table_stems : List (List ℕ)
table_stems = take 3 (drop 25 family_names)

-- those of a kind
abbrev pub kind_stems : Family → List (List ℕ)
kind_stems (family.Memory m) = memory_stems
kind_stems (family.Table k) = table_stems

-- the names of the helper at a place of the list: views come first, each with the variable that keeps it
abbrev pub stems_at : ℕ → List (List ℕ)
stems_at q = cond (nat_lt q 9) (family_stem_at (FAMILIES + q) ∷ family_stem_at q ∷ []) (family_stem_at q ∷ [])

-- the same with a place behind each
abbrev pub names_at : ℕ → ℕ → List (List ℕ)
names_at q n = map (λ stem. printed stem (Some n)) (stems_at q)

-- they are those of its kind
pub record KindRow (q : ℕ) (f : Family) : Type 0 where
  pub named : (n : ℕ) → kind_names f n ≡ names_at q n
  pub listed : list_all (λ x. list_any (pointwise nat_eq x) (kind_stems f)) (stems_at q) ≡ true

-- a row of its two facts
kind_row : (q : ℕ) (f : Family) → ((n : ℕ) → kind_names f n ≡ names_at q n)
    → list_all (λ x. list_any (pointwise nat_eq x) (kind_stems f)) (stems_at q) ≡ true → KindRow q f
kind_row q f named listed = record { named = named; listed = listed }

-- the rows of the list
kind_rows : Rows KindRow FAMILY
unfolding Rows
kind_rows =
    before (kind_row 0 _ (λ n. refl) refl)
    (before (kind_row 1 _ (λ n. refl) refl)
    (before (kind_row 2 _ (λ n. refl) refl)
    (before (kind_row 3 _ (λ n. refl) refl)
    (before (kind_row 4 _ (λ n. refl) refl)
    (before (kind_row 5 _ (λ n. refl) refl)
    (before (kind_row 6 _ (λ n. refl) refl)
    (before (kind_row 7 _ (λ n. refl) refl)
    (before (kind_row 8 _ (λ n. refl) refl)
    (before (kind_row 9 _ (λ n. refl) refl)
    (before (kind_row 10 _ (λ n. refl) refl)
    (before (kind_row 11 _ (λ n. refl) refl)
    (before (kind_row 12 _ (λ n. refl) refl)
    (before (kind_row 13 _ (λ n. refl) refl)
    (before (kind_row 14 _ (λ n. refl) refl)
    (before (kind_row 15 _ (λ n. refl) refl)
    (before (kind_row 16 _ (λ n. refl) refl)
    (before (kind_row 17 _ (λ n. refl) refl)
    (before (kind_row 18 _ (λ n. refl) refl)
    (before (kind_row 19 _ (λ n. refl) refl)
    (before (kind_row 20 _ (λ n. refl) refl)
    (before (kind_row 21 _ (λ n. refl) refl)
    (before (kind_row 22 _ (λ n. refl) refl)
    (before (kind_row 23 _ (λ n. refl) refl)
    (before (kind_row 24 _ (λ n. refl) refl)
    (before (kind_row 25 _ (λ n. refl) refl)
    (before (kind_row 26 _ (λ n. refl) refl)
    (before (kind_row 27 _ (λ n. refl) refl)
    tt)))))))))))))))))))))))))))

-- one of them by its place in the list
pub kind_at : (q : ℕ) → q < FAMILIES → KindRow q (family_at q)
kind_at q lt = row_at KindRow FAMILY (family.Table table.Get) kind_rows q lt

-- what the helper at a place of the list binds, where it is there
pub placed_binds : (parts : HelperParts) (q n : ℕ) (item : Item) → q < FAMILIES → family_item parts (family_at q) n ≡ Some item
    → bound_in item.words ≡ names_at q n
placed_binds parts q n item lt e = kind_binds parts (family_at q) n item e ∙ (kind_at q lt).named n

-- each name of the list is one of those of the helper that it stands for
own_stem : (p : ℕ) → p < FAMILY_BINDS → IsIn (family_stem_at p) (stems_at (family_owner p))
own_stem p lt =
    any_in (family_stem_at p) (stems_at (family_owner p))
    (agree_below_at (λ q. list_any (pointwise nat_eq (family_stem_at q)) (stems_at (family_owner q))) (λ q. true) FAMILY_BINDS p refl lt)

-- a name with a place is among such names
in_map : (n : ℕ) (stem : List ℕ) (stems : List (List ℕ)) → IsIn stem stems → IsIn (printed stem (Some n)) (map (λ s. printed s (Some n)) stems)
in_map n stem [] at = absurd at
in_map n stem (s ∷ stems) (inl same) = inl (ap (λ (x : List ℕ). printed x (Some n)) same)
in_map n stem (s ∷ stems) (inr at) = inr (in_map n stem stems at)

-- ---- who binds them

module _ (parts : HelperParts) where
  -- the first name of a helper without a place is provided, where the helper is there with what it uses
  pub single_provided : (i : ℕ) → i < SINGLES → is_there (single_item parts (single_at i)) ≡ true → single_ready parts (single_at i) ≡ true
      → IsProvided parts (single_name i)
  single_provided i lt there ready =
      let t = there_item (single_item parts (single_at i)) there in
      single_provides parts i (single_at i) t.0 (single_name i) lt refl t.1 ready
      (subst (λ (x : List ℕ). IsIn x (bound_in t.0.words)) (row_at FirstRow SINGLE single.HandleError first_rows i lt)
      (single_binds parts (single_at i) t.0 t.1))

  -- each name of a helper with a place is provided, where the helper is there with what it uses
  pub placed_provided : (p n : ℕ) → p < FAMILY_BINDS → n < 2 ^ 32 → is_there (family_item parts (family_at (family_owner p)) n) ≡ true
      → family_ready parts (family_at (family_owner p)) ≡ true → IsProvided parts (family_name p n)
  placed_provided p n lt small there ready =
      let q = family_owner p in
      let below : q < FAMILIES = owner_below (nat_lt p FAMILIES) p refl lt in
      let t = there_item (family_item parts (family_at q) n) there in
      family_provides parts q n (family_at q) t.0 (family_name p n) below small refl t.1 ready
      (subst (λ (ns : List (List ℕ)). IsIn (family_name p n) ns) (sym (placed_binds parts q n t.0 below t.1))
      (in_map n (family_stem_at p) (stems_at q) (own_stem p lt)))

  -- so is each of a helper that goes by a memory, where the memory is given
  pub memory_provided : (p n : ℕ) (m : MemoryHelper) (export : List ℕ) → p < FAMILY_BINDS → family_at (family_owner p) ≡ family.Memory m → n < 2 ^ 32
      → slice_get parts.memories n ≡ Some (Some export) → is_there (memory_item parts m n export) ≡ true → family_ready parts (family.Memory m) ≡ true
      → IsProvided parts (family_name p n)
  memory_provided p n m export lt is small given there ready =
      placed_provided p n lt small
      (ap (λ (f : Family). is_there (family_item parts f n)) is
      ∙ ap (λ (o : Option (Option (List ℕ))). is_there (of_memory (λ e. memory_item parts m n e) o)) given ∙ there)
      (ap (family_ready parts) is ∙ ready)

  -- and each of one that goes by the table, where the table is given
  pub table_provided : (p : ℕ) (k : TableHelper) (t : TableExport) → p < FAMILY_BINDS → family_at (family_owner p) ≡ family.Table k → t.place < 2 ^ 32
      → parts.table ≡ Some t → is_there (table_item parts k t.place t.name) ≡ true → IsProvided parts (family_name p t.place)
  table_provided p k t lt is small given there =
      placed_provided p t.place lt small
      (ap (λ (f : Family). is_there (family_item parts f t.place)) is
      ∙ ap (λ (o : Option TableExport). is_there (of_table (λ e. table_item parts k t.place e) t.place o)) given
      ∙ ap (λ (b : Bool). is_there (cond b (table_item parts k t.place t.name) None)) (eq-eqb t.place t.place refl) ∙ there)
      (ap (family_ready parts) is)
