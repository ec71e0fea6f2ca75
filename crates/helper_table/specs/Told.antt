-- What the words of helpers bind: names of the lists, each under the helper that it stands for.
use Rattle.std.proofs.Common.{◌≡◌, ℕ, ◌+◌, ◌-◌, ◌<◌, Bool, true, false, List, [], ◌∷◌, length, refl, subst, cond, arith, inl, inr, ◌⊎◌, zero, suc}
use Rattle.std.specs.Prelude.{nat_eq, nat_lt, codes, Option, Some, None, slice_index_or, slice_get}
use Rattle.std.proofs.lemmas.Bool.{ltb-true}
use Rattle.std.proofs.Math.Nat.{mod-lt}
use Rattle.values.specs.Lists.{IsIn}
use Rattle.glue_words.specs.declared.word.Word.{Word}
use Rattle.glue_words.specs.declared.item.Item.{Item}
use Rattle.glue_words.specs.Names.{bound_in}
use Rattle.glue_heap.specs.declared.key.HeapKey.{HeapKey}
use Rattle.glue_heap.specs.declared.key.HeapKey.TheVariants as heap
use Rattle.glue_heap.specs.HeapKeys.{heap_name}
use Rattle.glue_heap.proofs.HeapFacts.{heap_bound}
use Rattle.glue_helpers.specs.declared.plain.PlainHelper.TheVariants as plain
use Rattle.glue_helpers.specs.declared.closures.ClosureHelper.TheVariants as closure
use Rattle.glue_helpers.specs.declared.element.ElementKind.TheVariants as element
use Rattle.glue_helpers.specs.declared.element.Width.TheVariants as width
use Rattle.glue_helpers.specs.Plain.{plain_item}
use Rattle.glue_helpers.proofs.PlainTexts.{plain_holds}
use Rattle.glue_helpers.proofs.ClosureTexts.{closure_holds}
use Rattle.glue_helpers.proofs.ErrorTexts.{by_table_holds, by_heap_holds}
use Rattle.glue_helpers.proofs.ViewTexts.{array_view_holds, data_view_holds}
use Rattle.glue_helpers.proofs.StringTexts.{get_string_holds, pass_string_holds}
use Rattle.glue_helpers.proofs.ArrayTexts.{get_array_holds, pass_array_holds, get_by_table_holds, get_by_heap_holds}
use Rattle.glue_helpers.proofs.ArrayTexts.{pass_by_table_holds, pass_by_heap_holds}
use Rattle.glue_helpers.proofs.ReferenceTexts.{add_to_table_holds, get_from_table_holds, take_from_table_holds}
use Rattle.helper_table.specs.declared.parts.EncoderForm.{EncoderForm}
use Rattle.helper_table.specs.declared.parts.EncoderForm.TheVariants as encoder
use Rattle.helper_table.specs.declared.parts.TableExport.{TableExport}
use Rattle.helper_table.specs.declared.parts.HelperParts.{HelperParts}
use Rattle.helper_table.specs.declared.kinds.Single.{Single}
use Rattle.helper_table.specs.declared.kinds.Single.TheVariants as single
use Rattle.helper_table.specs.declared.kinds.MemoryHelper.{MemoryHelper}
use Rattle.helper_table.specs.declared.kinds.MemoryHelper.TheVariants as memory
use Rattle.helper_table.specs.declared.kinds.TableHelper.{TableHelper}
use Rattle.helper_table.specs.declared.kinds.TableHelper.TheVariants as table
use Rattle.helper_table.specs.declared.kinds.Family.{Family}
use Rattle.helper_table.specs.declared.kinds.Family.TheVariants as family
use Rattle.helper_table.specs.declared.kinds.TheConstants.{SINGLES, SINGLE, SINGLE_BINDS, DECODER, FAMILIES, FAMILY, FAMILY_BINDS}
use Rattle.helper_table.specs.Names.{single_owner, family_owner}
use Rattle.helper_table.specs.Made.{decoder_form, encoder_form, error_handled, closure_made, single_item, values_got, values_passed}
use Rattle.helper_table.specs.Made.{memory_item, added, taken, table_item, of_memory, of_table, family_item, helper_item}
use Rattle.helper_table.specs.Made.{item_words, helper_words}
use Rattle.helper_table.specs.Names.{single_name, family_name}
use Rattle.helper_table.specs.Made.{single_at, family_at, family_of, place_of}

-- ---- rows

-- each of a list, with its place
unfoldable pub Rows : {A : Type 0} → (ℕ → A → Type 0) → List A → Type 0
Rows Row [] = Unit {0}
Rows Row (x ∷ xs) = Row 0 x × Rows (λ i. Row (suc i)) xs

pub row_at : {A : Type 0} (Row : ℕ → A → Type 0) (xs : List A) (d : A) → Rows Row xs → (i : ℕ) → i < length xs → Row i (slice_index_or xs i d)
unfolding Rows
row_at Row [] d h i lt = absurd (omega (arith, lt))
row_at Row (x ∷ xs) d h zero lt = h.0
row_at Row (x ∷ xs) d h (suc i) lt = row_at (λ j. Row (suc j)) xs d h.1 i (omega (arith, lt))

-- a row before others
pub before : {A B : Type 0} → A → B → A × B
before a b = (a, b)

-- the name stands among those that such helpers bind, under this helper
abbrev pub IsSingle : ℕ → List ℕ → Type 0
IsSingle i name = (p : ℕ) × ((p < SINGLE_BINDS) × (single_owner p ≡ i) × (name ≡ single_name p))

-- the same with the place of a memory or a table
abbrev pub IsFamily : ℕ → ℕ → List ℕ → Type 0
IsFamily q n name = (p : ℕ) × ((p < FAMILY_BINDS) × (family_owner p ≡ q) × (name ≡ family_name p n))

abbrev SingleRow : ℕ → Single → Type 0
SingleRow i f = (parts : HelperParts) (name : List ℕ) → IsIn name (bound_in (item_words (single_item parts f))) → IsSingle i name

abbrev FamilyRow : ℕ → Family → Type 0
FamilyRow q f = (parts : HelperParts) (n : ℕ) (name : List ℕ) → IsIn name (bound_in (item_words (family_item parts f n))) → IsFamily q n name

-- words bind this name, or none
abbrev Binds : List Word → List ℕ → Type 0
Binds words x = (bound_in words ≡ []) ⊎ (bound_in words ≡ x ∷ [])

one_is : (name x : List ℕ) → IsIn name (x ∷ []) → name ≡ x
one_is name x (inl same) = same
one_is name x (inr none) = absurd none

bound_is : (words : List Word) (x name : List ℕ) → Binds words x → IsIn name (bound_in words) → name ≡ x
bound_is words x name (inl e) h = absurd (subst (λ (ns : List (List ℕ)). IsIn name ns) e h)
bound_is words x name (inr e) h = one_is name x (subst (λ (ns : List (List ℕ)). IsIn name ns) e h)

-- ---- helpers that go by no memory and no table

at_single : (p i : ℕ) (name : List ℕ) → nat_lt p SINGLE_BINDS ≡ true → single_owner p ≡ i → name ≡ single_name p → IsSingle i name
at_single p i name lt own is = (p, (ltb-true p SINGLE_BINDS lt, own, is))

single_row : (i : ℕ) (f : Single) → nat_lt i SINGLE_BINDS ≡ true → single_owner i ≡ i
    → ((parts : HelperParts) → Binds (item_words (single_item parts f)) (single_name i)) → SingleRow i f
single_row i f lt own binds parts name h = at_single i i name lt own (bound_is (item_words (single_item parts f)) (single_name i) name (binds parts) h)

heap_binds : (k : HeapKey) (parts : HelperParts) → Binds (item_words (single_item parts (single.Heap k))) (heap_name k)
heap_binds k parts = inr (heap_bound k parts.debug)

decoder_row : SingleRow DECODER (single.Plain plain.TextDecoder)
decoder_row parts name h = by parts.browser h
  where
    by : (b : Bool) → IsIn name (bound_in (plain_item (decoder_form b)).words) → IsSingle DECODER name
    by false k = elim (subst (λ (ns : List (List ℕ)). IsIn name ns) (plain_holds plain.TextDecoder).binds k) [
      | inl same ↦ at_single DECODER DECODER name refl refl same
      | inr (inl same) ↦ at_single SINGLES DECODER name refl refl same
      | inr (inr none) ↦ absurd none
    ]
    by true k = elim (subst (λ (ns : List (List ℕ)). IsIn name ns) (plain_holds plain.BrowserTextDecoder).binds k) [
      | inl same ↦ at_single DECODER DECODER name refl refl same
      | inr (inl same) ↦ at_single (SINGLES + 1) DECODER name refl refl same
      | inr (inr (inl same)) ↦ at_single (SINGLES + 2) DECODER name refl refl same
      | inr (inr (inr (inl same))) ↦ at_single SINGLES DECODER name refl refl same
      | inr (inr (inr (inr none))) ↦ absurd none
    ]

encoder_binds : (form : EncoderForm) → Binds (plain_item (encoder_form form)).words (codes "cachedTextEncoder")
encoder_binds encoder.Own = inr (plain_holds plain.TextEncoder).binds
encoder_binds encoder.Tested = inr (plain_holds plain.TestedTextEncoder).binds
encoder_binds encoder.Copying = inr (plain_holds plain.CopyingTextEncoder).binds

finalization_binds : (o : Option (List ℕ)) → Binds (item_words (closure_made closure.ClosureFinalization o)) (codes "CLOSURE_DTORS")
finalization_binds None = inl refl
finalization_binds (Some destroy) = inr (closure_holds destroy closure.ClosureFinalization).binds

make_binds : (o : Option (List ℕ)) → Binds (item_words (closure_made closure.MakeClosure o)) (codes "makeClosure")
make_binds None = inl refl
make_binds (Some destroy) = inr (closure_holds destroy closure.MakeClosure).binds

make_mut_binds : (o : Option (List ℕ)) → Binds (item_words (closure_made closure.MakeMutClosure o)) (codes "makeMutClosure")
make_mut_binds None = inl refl
make_mut_binds (Some destroy) = inr (closure_holds destroy closure.MakeMutClosure).binds

error_binds : (by : Bool) (t : Option TableExport) (o : Option (List ℕ)) → Binds (item_words (error_handled by t o)) (codes "handleError")
error_binds by t None = inl refl
error_binds true None (Some store) = inl refl
error_binds true (Some t) (Some store) = inr (by_table_holds store t.place).binds
error_binds false t (Some store) = inr (by_heap_holds store).binds

single_rows : Rows SingleRow SINGLE
unfolding Rows
single_rows =
    before (single_row 0 (single.Heap heap.Heap) refl refl (heap_binds heap.Heap))
    (before (single_row 1 (single.Heap heap.HeapNext) refl refl (heap_binds heap.HeapNext))
    (before (single_row 2 (single.Heap heap.StackPointer) refl refl (heap_binds heap.StackPointer))
    (before (single_row 3 (single.Heap heap.AddHeapObject) refl refl (heap_binds heap.AddHeapObject))
    (before (single_row 4 (single.Heap heap.BorrowedObjects) refl refl (heap_binds heap.BorrowedObjects))
    (before (single_row 5 (single.Heap heap.DropRef) refl refl (heap_binds heap.DropRef))
    (before (single_row 6 (single.Heap heap.GetObject) refl refl (heap_binds heap.GetObject))
    (before (single_row 7 (single.Heap heap.TakeObject) refl refl (heap_binds heap.TakeObject))
    (before (single_row 8 (single.Plain plain.AssertBigint) refl refl (λ parts. inr (plain_holds plain.AssertBigint).binds))
    (before (single_row 9 (single.Plain plain.AssertBool) refl refl (λ parts. inr (plain_holds plain.AssertBool).binds))
    (before (single_row 10 (single.Plain plain.AssertClass) refl refl (λ parts. inr (plain_holds plain.AssertClass).binds))
    (before (single_row 11 (single.Plain plain.AssertNum) refl refl (λ parts. inr (plain_holds plain.AssertNum).binds))
    (before (single_row 12 (single.Plain plain.DebugString) refl refl (λ parts. inr (plain_holds plain.DebugString).binds))
    (before (single_row 13 (single.Plain plain.GetInheritedDescriptor) refl refl (λ parts. inr (plain_holds plain.GetInheritedDescriptor).binds))
    (before (single_row 14 (single.Plain plain.IsLikeNone) refl refl (λ parts. inr (plain_holds plain.IsLikeNone).binds))
    (before (single_row 15 (single.Plain plain.LogError) refl refl (λ parts. inr (plain_holds plain.LogError).binds))
    (before (single_row 16 (single.Plain plain.NotDefined) refl refl (λ parts. inr (plain_holds plain.NotDefined).binds))
    (before (single_row 17 (single.Plain plain.PanicError) refl refl (λ parts. inr (plain_holds plain.PanicError).binds))
    (before decoder_row
    (before (single_row 19 (single.Plain plain.TextEncoder) refl refl (λ parts. encoder_binds parts.encoder))
    (before (single_row 20 (single.Plain plain.WasmVectorLen) refl refl (λ parts. inr (plain_holds plain.WasmVectorLen).binds))
    (before (single_row 21 (single.Closure closure.ClosureFinalization) refl refl (λ parts. finalization_binds parts.destroy_closure))
    (before (single_row 22 (single.Closure closure.MakeClosure) refl refl (λ parts. make_binds parts.destroy_closure))
    (before (single_row 23 (single.Closure closure.MakeMutClosure) refl refl (λ parts. make_mut_binds parts.destroy_closure))
    (before (single_row 24 single.HandleError refl refl (λ parts. error_binds parts.externref parts.table parts.exn_store))
    tt))))))))))))))))))))))))

-- ---- helpers that go by a memory or a table

at_family : (p q n : ℕ) (name : List ℕ) → nat_lt p FAMILY_BINDS ≡ true → family_owner p ≡ q → name ≡ family_name p n → IsFamily q n name
at_family p q n name lt own is = (p, (ltb-true p FAMILY_BINDS lt, own, is))

of_memory_told : (P : List ℕ → Type 0) (item : List ℕ → Option Item) (o : Option (Option (List ℕ)))
    → ((export name : List ℕ) → IsIn name (bound_in (item_words (item export))) → P name) → (name : List ℕ)
    → IsIn name (bound_in (item_words (of_memory item o))) → P name
of_memory_told P item None told name h = absurd h
of_memory_told P item (Some None) told name h = absurd h
of_memory_told P item (Some (Some export)) told name h = told export name h

of_table_told : (P : List ℕ → Type 0) (item : List ℕ → Option Item) (place : ℕ) (o : Option TableExport)
    → ((export name : List ℕ) → IsIn name (bound_in (item_words (item export))) → P name) → (name : List ℕ)
    → IsIn name (bound_in (item_words (of_table item place o))) → P name
of_table_told P item place None told name h = absurd h
of_table_told P item place (Some t) told name h = by (nat_eq t.place place) h
  where
    by : (b : Bool) → IsIn name (bound_in (item_words (cond b (item t.name) None))) → P name
    by true k = told t.name name k
    by false k = absurd k

memory_row : (q : ℕ) (m : MemoryHelper) → nat_lt q FAMILY_BINDS ≡ true → family_owner q ≡ q
    → ((parts : HelperParts) (n : ℕ) (export : List ℕ) → Binds (item_words (memory_item parts m n export)) (family_name q n))
    → FamilyRow q (family.Memory m)
memory_row q m lt own binds parts n =
    of_memory_told (IsFamily q n) (λ export. memory_item parts m n export) (slice_get parts.memories n)
    (λ export name h. at_family q q n name lt own
    (bound_is (item_words (memory_item parts m n export)) (family_name q n) name (binds parts n export) h))

table_row : (q : ℕ) (m : TableHelper) → nat_lt q FAMILY_BINDS ≡ true → family_owner q ≡ q
    → ((parts : HelperParts) (n : ℕ) (export : List ℕ) → Binds (item_words (table_item parts m n export)) (family_name q n))
    → FamilyRow q (family.Table m)
table_row q m lt own binds parts n =
    of_table_told (IsFamily q n) (λ export. table_item parts m n export) n parts.table
    (λ export name h. at_family q q n name lt own
    (bound_is (item_words (table_item parts m n export)) (family_name q n) name (binds parts n export) h))

view_case : (q c n : ℕ) (words : List Word) (name : List ℕ) → nat_lt q FAMILY_BINDS ≡ true → nat_lt c FAMILY_BINDS ≡ true → family_owner q ≡ q
    → family_owner c ≡ q → bound_in words ≡ family_name c n ∷ family_name q n ∷ [] → IsIn name (bound_in words) → IsFamily q n name
view_case q c n words name lt lu own owns e h = elim (subst (λ (ns : List (List ℕ)). IsIn name ns) e h) [
  | inl same ↦ at_family c q n name lu owns same
  | inr (inl same) ↦ at_family q q n name lt own same
  | inr (inr none) ↦ absurd none
]

-- a helper that binds its own name and the variable that keeps its view
view_row : (q c : ℕ) (m : MemoryHelper) → nat_lt q FAMILY_BINDS ≡ true → nat_lt c FAMILY_BINDS ≡ true → family_owner q ≡ q → family_owner c ≡ q
    → ((parts : HelperParts) (n : ℕ) (export : List ℕ) → bound_in
    (item_words (memory_item parts m n export)) ≡ family_name c n ∷ family_name q n ∷ []) → FamilyRow q (family.Memory m)
view_row q c m lt lu own owns bound parts n =
    of_memory_told (IsFamily q n) (λ export. memory_item parts m n export) (slice_get parts.memories n)
    (λ export name h. view_case q c n (item_words (memory_item parts m n export)) name lt lu own owns (bound parts n export) h)

got_binds : (by : Bool) (t : Option TableExport) (o : Option (List ℕ)) (n : ℕ) → Binds (item_words (values_got by t o n)) (family_name 23 n)
got_binds false t o n = inr (get_by_heap_holds n).binds
got_binds true None o n = inl refl
got_binds true (Some t) None n = inl refl
got_binds true (Some t) (Some free) n = inr (get_by_table_holds n t.name free).binds

passed_binds : (by : Bool) (t : Option TableExport) (n : ℕ) → Binds (item_words (values_passed by t n)) (family_name 24 n)
passed_binds false t n = inr (pass_by_heap_holds n).binds
passed_binds true None n = inl refl
passed_binds true (Some t) n = inr (pass_by_table_holds n t.place).binds

added_binds : (n : ℕ) (export : List ℕ) (o : Option (List ℕ)) → Binds (item_words (added n export o)) (family_name 25 n)
added_binds n export None = inl refl
added_binds n export (Some allocate) = inr (add_to_table_holds n export allocate).binds

taken_binds : (n : ℕ) (export : List ℕ) (o : Option (List ℕ)) → Binds (item_words (taken n export o)) (family_name 27 n)
taken_binds n export None = inl refl
taken_binds n export (Some free) = inr (take_from_table_holds n export free).binds

family_rows : Rows FamilyRow FAMILY
unfolding Rows
family_rows =
    before (view_row 0 FAMILIES (memory.ArrayView element.I8) refl refl refl refl (λ parts n export. (array_view_holds n export element.I8).binds))
    (before (view_row 1 (FAMILIES + 1) (memory.ArrayView element.U8) refl refl refl refl (λ parts n export. (array_view_holds n export element.U8).binds))
    (before (view_row 2 (FAMILIES + 2) (memory.ArrayView element.I16) refl refl refl refl (λ parts n export. (array_view_holds n export element.I16).binds))
    (before (view_row 3 (FAMILIES + 3) (memory.ArrayView element.U16) refl refl refl refl (λ parts n export. (array_view_holds n export element.U16).binds))
    (before (view_row 4 (FAMILIES + 4) (memory.ArrayView element.I32) refl refl refl refl (λ parts n export. (array_view_holds n export element.I32).binds))
    (before (view_row 5 (FAMILIES + 5) (memory.ArrayView element.U32) refl refl refl refl (λ parts n export. (array_view_holds n export element.U32).binds))
    (before (view_row 6 (FAMILIES + 6) (memory.ArrayView element.I64) refl refl refl refl (λ parts n export. (array_view_holds n export element.I64).binds))
    (before (view_row 7 (FAMILIES + 7) (memory.ArrayView element.U64) refl refl refl refl (λ parts n export. (array_view_holds n export element.U64).binds))
    (before (view_row 8 (FAMILIES + 8) memory.DataView refl refl refl refl (λ parts n export. (data_view_holds n export).binds))
    (before (memory_row 9 (memory.GetArray element.I8) refl refl (λ parts n export. inr (get_array_holds element.I8 n).binds))
    (before (memory_row 10 (memory.GetArray element.U8) refl refl (λ parts n export. inr (get_array_holds element.U8 n).binds))
    (before (memory_row 11 (memory.GetArray element.I16) refl refl (λ parts n export. inr (get_array_holds element.I16 n).binds))
    (before (memory_row 12 (memory.GetArray element.U16) refl refl (λ parts n export. inr (get_array_holds element.U16 n).binds))
    (before (memory_row 13 (memory.GetArray element.I32) refl refl (λ parts n export. inr (get_array_holds element.I32 n).binds))
    (before (memory_row 14 (memory.GetArray element.U32) refl refl (λ parts n export. inr (get_array_holds element.U32 n).binds))
    (before (memory_row 15 (memory.GetArray element.I64) refl refl (λ parts n export. inr (get_array_holds element.I64 n).binds))
    (before (memory_row 16 (memory.GetArray element.U64) refl refl (λ parts n export. inr (get_array_holds element.U64 n).binds))
    (before (memory_row 17 (memory.PassArray width.Bits8) refl refl (λ parts n export. inr (pass_array_holds width.Bits8 n).binds))
    (before (memory_row 18 (memory.PassArray width.Bits16) refl refl (λ parts n export. inr (pass_array_holds width.Bits16 n).binds))
    (before (memory_row 19 (memory.PassArray width.Bits32) refl refl (λ parts n export. inr (pass_array_holds width.Bits32 n).binds))
    (before (memory_row 20 (memory.PassArray width.Bits64) refl refl (λ parts n export. inr (pass_array_holds width.Bits64 n).binds))
    (before (memory_row 21 memory.GetString refl refl (λ parts n export. inr (get_string_holds n).binds))
    (before (memory_row 22 memory.PassString refl refl (λ parts n export. inr (pass_string_holds n parts.debug).binds))
    (before (memory_row 23 memory.GetValues refl refl (λ parts n export. got_binds parts.externref parts.table parts.externref_drop_slice n))
    (before (memory_row 24 memory.PassValues refl refl (λ parts n export. passed_binds parts.externref parts.table n))
    (before (table_row 25 table.Add refl refl (λ parts n export. added_binds n export parts.externref_alloc))
    (before (table_row 26 table.Get refl refl (λ parts n export. inr (get_from_table_holds n export).binds))
    (before (table_row 27 table.Take refl refl (λ parts n export. taken_binds n export parts.externref_drop))
    tt)))))))))))))))))))))))))))

-- ---- by number

-- what the words of the helper with a number may bind
abbrev pub IsBound : Bool → ℕ → List ℕ → Type 0
IsBound true i name = IsSingle i name
IsBound false i name = IsFamily (family_of i) (place_of i) name

told_by : (parts : HelperParts) (b : Bool) (i : ℕ) (name : List ℕ) → nat_lt i SINGLES ≡ b
    → IsIn name (bound_in (item_words (cond b (single_item parts (single_at i)) (family_item parts (family_at (family_of i)) (place_of i)))))
    → IsBound b i name
told_by parts true i name e h = row_at SingleRow SINGLE single.HandleError single_rows i (ltb-true i SINGLES e) parts name h
told_by parts false i name e h =
    row_at FamilyRow FAMILY (family.Table table.Get) family_rows (family_of i) (mod-lt (i - SINGLES) {m = FAMILIES} (omega arith)) parts (place_of i) name h

-- what the words of a helper bind stands in the lists, under this helper
pub told : (parts : HelperParts) (i : ℕ) (name : List ℕ) → IsIn name (bound_in (helper_words parts i)) → IsBound (nat_lt i SINGLES) i name
unfolding helper_item
told parts i name h = told_by parts (nat_lt i SINGLES) i name refl h
