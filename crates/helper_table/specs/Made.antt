-- The helpers of a glue file: their numbers, keys and items.
use Rattle.std.specs.Prelude.{ℕ, ◌+◌, ◌-◌, ◌*◌, ◌/◌, ◌%◌, ◌^◌, nat_lt, nat_eq, min, max, cond, Bool, true, false, List, [], Option, Some, None}
use Rattle.std.specs.Prelude.{length, slice_index_or, slice_get}
use Rattle.glue_words.specs.declared.word.Word.{Word}
use Rattle.glue_words.specs.declared.item.Item.{Item}
use Rattle.glue_heap.specs.HeapItems.{heap_item}
use Rattle.glue_helpers.specs.declared.plain.PlainHelper.{PlainHelper}
use Rattle.glue_helpers.specs.declared.plain.PlainHelper.TheVariants as plain
use Rattle.glue_helpers.specs.declared.closures.ClosureHelper.{ClosureHelper}
use Rattle.glue_helpers.specs.Plain.{plain_item}
use Rattle.glue_helpers.specs.Closures.{closure_item}
use Rattle.glue_helpers.specs.Errors.{handle_error_by_table, handle_error_by_heap}
use Rattle.glue_helpers.specs.Views.{array_view, data_view}
use Rattle.glue_helpers.specs.Strings.{get_string, pass_string}
use Rattle.glue_helpers.specs.Arrays.{get_array, pass_array, get_values_by_table, get_values_by_heap, pass_values_by_table}
use Rattle.glue_helpers.specs.Arrays.{pass_values_by_heap}
use Rattle.glue_helpers.specs.References.{add_to_table, get_from_table, take_from_table}
use Rattle.helper_table.specs.declared.parts.EncoderForm.{EncoderForm}
use Rattle.helper_table.specs.declared.parts.EncoderForm.TheVariants as encoder
use Rattle.helper_table.specs.declared.parts.TableExport.{TableExport}
use Rattle.helper_table.specs.declared.parts.HelperParts.{HelperParts}
use Rattle.helper_table.specs.declared.kinds.Single.{Single}
use Rattle.helper_table.specs.declared.kinds.Single.TheVariants as single
use Rattle.helper_table.specs.declared.kinds.MemoryHelper.{MemoryHelper}
use Rattle.helper_table.specs.declared.kinds.MemoryHelper.TheVariants as memory
use Rattle.helper_table.specs.declared.kinds.TableHelper.{TableHelper}
use Rattle.helper_table.specs.declared.kinds.TableHelper.TheVariants as table
use Rattle.helper_table.specs.declared.kinds.Family.{Family}
use Rattle.helper_table.specs.declared.kinds.Family.TheVariants as family
use Rattle.helper_table.specs.declared.kinds.TheConstants.{SINGLES, SINGLE, FAMILIES, FAMILY}
use Rattle.helper_table.specs.Names.{single_key_at, family_name}

-- ---- forms

-- the decoder: its form for browsers, or the other
abbrev pub decoder_form : Bool → PlainHelper
decoder_form true = plain.BrowserTextDecoder
decoder_form false = plain.TextDecoder

-- the encoder
abbrev pub encoder_form : EncoderForm → PlainHelper
encoder_form encoder.Own = plain.TextEncoder
encoder_form encoder.Tested = plain.TestedTextEncoder
encoder_form encoder.Copying = plain.CopyingTextEncoder

-- the form of a helper without stand-ins
abbrev pub formed : HelperParts → PlainHelper → PlainHelper
formed parts plain.TextDecoder = decoder_form parts.browser
formed parts plain.TextEncoder = encoder_form parts.encoder
formed parts helper = helper

-- ---- items, where the exports that they take are there

-- the helper that hands what an import throws to the module: by the table of references, or by the heap of objects
abbrev pub error_handled : Bool → Option TableExport → Option (List ℕ) → Option Item
error_handled externref table None = None
error_handled true None (Some store) = None
error_handled true (Some t) (Some store) = Some (handle_error_by_table t.place store)
error_handled false table (Some store) = Some (handle_error_by_heap store)

-- a helper for closures
abbrev pub closure_made : ClosureHelper → Option (List ℕ) → Option Item
closure_made helper None = None
closure_made helper (Some destroy) = Some (closure_item helper destroy)

-- a helper that goes by no memory and no table
abbrev pub single_item : HelperParts → Single → Option Item
single_item parts (single.Heap key) = Some (heap_item key parts.debug)
single_item parts (single.Plain helper) = Some (plain_item (formed parts helper))
single_item parts (single.Closure helper) = closure_made helper parts.destroy_closure
single_item parts single.HandleError = error_handled parts.externref parts.table parts.exn_store

-- the helpers that give and pass arrays of values: by the table of references, or by the heap of objects
abbrev pub values_got : Bool → Option TableExport → Option (List ℕ) → ℕ → Option Item
values_got false table free memory = Some (get_values_by_heap memory)
values_got true None free memory = None
values_got true (Some t) None memory = None
values_got true (Some t) (Some free) memory = Some (get_values_by_table memory t.name free)

abbrev pub values_passed : Bool → Option TableExport → ℕ → Option Item
values_passed false table memory = Some (pass_values_by_heap memory)
values_passed true None memory = None
values_passed true (Some t) memory = Some (pass_values_by_table memory t.place)

-- a helper that goes by the memory at a place, which is exported under this name
abbrev pub memory_item : HelperParts → MemoryHelper → ℕ → List ℕ → Option Item
memory_item parts (memory.ArrayView element) place export = Some (array_view element place export)
memory_item parts memory.DataView place export = Some (data_view place export)
memory_item parts (memory.GetArray element) place export = Some (get_array element place)
memory_item parts (memory.PassArray width) place export = Some (pass_array width place)
memory_item parts memory.GetString place export = Some (get_string place)
memory_item parts memory.PassString place export = Some (pass_string place parts.debug)
memory_item parts memory.GetValues place export = values_got parts.externref parts.table parts.externref_drop_slice place
memory_item parts memory.PassValues place export = values_passed parts.externref parts.table place

-- a helper that adds to the table of references, or takes out of it, by the function for this
abbrev pub added : ℕ → List ℕ → Option (List ℕ) → Option Item
added place export None = None
added place export (Some allocate) = Some (add_to_table place export allocate)

abbrev pub taken : ℕ → List ℕ → Option (List ℕ) → Option Item
taken place export None = None
taken place export (Some free) = Some (take_from_table place export free)

-- a helper that goes by the table of references at a place, which is exported under this name
abbrev pub table_item : HelperParts → TableHelper → ℕ → List ℕ → Option Item
table_item parts table.Add place export = added place export parts.externref_alloc
table_item parts table.Get place export = Some (get_from_table place export)
table_item parts table.Take place export = taken place export parts.externref_drop

-- the item where a memory is exported, and where the table is the one at a place
abbrev pub of_memory : (List ℕ → Option Item) → Option (Option (List ℕ)) → Option Item
of_memory item None = None
of_memory item (Some None) = None
of_memory item (Some (Some export)) = item export

abbrev pub of_table : (List ℕ → Option Item) → ℕ → Option TableExport → Option Item
of_table item place None = None
of_table item place (Some t) = cond (nat_eq t.place place) (item t.name) None

-- a helper that goes by the memory or the table at a place
abbrev pub family_item : HelperParts → Family → ℕ → Option Item
family_item parts (family.Memory helper) place =
    of_memory (λ export. memory_item parts helper place export) (slice_get parts.memories place)
family_item parts (family.Table helper) place =
    of_table (λ export. table_item parts helper place export) place parts.table

-- ---- by number: first those without a place, then for each place the others

-- the helper without a place that has a number
abbrev pub single_at : ℕ → Single
single_at node = slice_index_or SINGLE node single.HandleError

-- the helper with a place at a place of the list
abbrev pub family_at : ℕ → Family
family_at at = slice_index_or FAMILY at (family.Table table.Get)

-- which of these has a number, and for which memory or table
abbrev pub family_of : ℕ → ℕ
family_of node = (node - SINGLES) % FAMILIES

abbrev pub place_of : ℕ → ℕ
place_of node = (node - SINGLES) / FAMILIES

-- the item of the helper with a number
unfoldable pub helper_item : HelperParts → ℕ → Option Item
helper_item parts node =
    cond (nat_lt node SINGLES) (single_item parts (single_at node))
    (family_item parts (family_at (family_of node)) (place_of node))

-- whether an item is there
abbrev pub is_there : Option Item → Bool
is_there None = false
is_there (Some item) = true

-- an item's words; none where there is no item
abbrev pub item_words : Option Item → List Word
item_words None = []
item_words (Some item) = item.words

-- the words of the helper with a number
abbrev pub helper_words : HelperParts → ℕ → List Word
helper_words parts node = item_words (helper_item parts node)

-- its key
unfoldable pub helper_key : ℕ → List ℕ
helper_key node =
    cond (nat_lt node SINGLES) (single_key_at node)
    (family_name (family_of node) (place_of node))

-- one more than the place of the table; 0 where there is none
abbrev pub table_places : Option TableExport → ℕ
table_places None = 0
table_places (Some t) = t.place + 1

-- how many helpers have a number
abbrev pub count : HelperParts → ℕ
count parts = SINGLES + FAMILIES * min (max (length parts.memories) (table_places parts.table)) (2 ^ 32)
