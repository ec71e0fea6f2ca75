-- What the items of the object table declare and use, and that they fit into a file where these names are known, with
-- the tests of `debug` and without them.
use Rattle.std.proofs.Common.{◌≡◌, ℕ, List, [], ◌∷◌, refl, Bool, true, false}
use Rattle.std.specs.Prelude.{zero, codes}
use Rattle.std.specs.List.{list_any}
use Rattle.glue_words.specs.Facts.{facts}
use Rattle.glue_words.specs.LateNames.{late_names}
use Rattle.glue_words.specs.Linking.{AreAmong}
use Rattle.glue_words.specs.Spacing.{joins}
use Rattle.glue_words.specs.Tables.{punct_text}
use Rattle.glue_words.specs.Names.{bound_in, used_in, hosted_in, wasm_in, is_export_key}
use Rattle.glue_words.proofs.Belonging.{Context}
use Rattle.glue_words.proofs.Fitting.{Fits}
use Rattle.glue_heap.specs.HeapItems.{heap_words}
use Rattle.glue_heap.specs.HeapKeys.{heap_name}
use Rattle.glue_heap.specs.declared.key.HeapKey.{HeapKey}
use Rattle.glue_heap.specs.declared.key.HeapKey.TheVariants as key
use Rattle.glue_heap.proofs.Known.{AreSame, fit_with, uses_are, hosts_are, fits_by_test}

-- the names of the table that a part uses
abbrev pub heap_used_names : HeapKey → List (List ℕ)
heap_used_names key.Heap = codes "heap" ∷ []
heap_used_names key.HeapNext = codes "heap" ∷ []
heap_used_names key.StackPointer = []
heap_used_names key.AddHeapObject = codes "heap" ∷ codes "heap_next" ∷ []
heap_used_names key.BorrowedObjects = codes "heap" ∷ codes "stack_pointer" ∷ []
heap_used_names key.DropRef = codes "heap" ∷ codes "heap_next" ∷ []
heap_used_names key.GetObject = codes "heap" ∷ []
heap_used_names key.TakeObject = codes "getObject" ∷ codes "dropObject" ∷ []

-- the host's names that it uses
abbrev pub heap_host_names : HeapKey → Bool → List (List ℕ)
heap_host_names key.Heap debug = codes "Array" ∷ codes "undefined" ∷ []
heap_host_names key.AddHeapObject true = codes "Error" ∷ []
heap_host_names key.BorrowedObjects debug = codes "Error" ∷ []
heap_host_names k debug = []

-- each declares its name alone
pub heap_bound : (k : HeapKey) (debug : Bool) → bound_in (heap_words k debug) ≡ heap_name k ∷ []
heap_bound key.Heap debug = refl
heap_bound key.HeapNext debug = refl
heap_bound key.StackPointer debug = refl
heap_bound key.AddHeapObject true = refl
heap_bound key.AddHeapObject false = refl
heap_bound key.BorrowedObjects debug = refl
heap_bound key.DropRef debug = refl
heap_bound key.GetObject debug = refl
heap_bound key.TakeObject debug = refl

-- none takes an export of the module
pub heap_takes : (k : HeapKey) (debug : Bool) → wasm_in (heap_words k debug) ≡ []
heap_takes key.Heap debug = refl
heap_takes key.HeapNext debug = refl
heap_takes key.StackPointer debug = refl
heap_takes key.AddHeapObject true = refl
heap_takes key.AddHeapObject false = refl
heap_takes key.BorrowedObjects debug = refl
heap_takes key.DropRef debug = refl
heap_takes key.GetObject debug = refl
heap_takes key.TakeObject debug = refl

-- none is exported
pub heap_inner : (k : HeapKey) (debug : Bool) → list_any is_export_key (heap_words k debug) ≡ false
heap_inner key.Heap debug = refl
heap_inner key.HeapNext debug = refl
heap_inner key.StackPointer debug = refl
heap_inner key.AddHeapObject true = refl
heap_inner key.AddHeapObject false = refl
heap_inner key.BorrowedObjects debug = refl
heap_inner key.DropRef debug = refl
heap_inner key.GetObject debug = refl
heap_inner key.TakeObject debug = refl

-- outside of functions, names of the table are evaluated with the item
pub heap_now : (k : HeapKey) (debug : Bool) → late_names zero (heap_words k debug) ≡ []
heap_now key.Heap debug = refl
heap_now key.HeapNext debug = refl
heap_now key.StackPointer debug = refl
heap_now key.AddHeapObject true = refl
heap_now key.AddHeapObject false = refl
heap_now key.BorrowedObjects debug = refl
heap_now key.DropRef debug = refl
heap_now key.GetObject debug = refl
heap_now key.TakeObject debug = refl

-- its facts pass the test
heap_fit : (k : HeapKey) (debug : Bool)
    → fit_with (facts (heap_words k debug)) (heap_used_names k) (heap_host_names k debug) ≡ true
unfolding joins punct_text
heap_fit key.Heap debug = refl
heap_fit key.HeapNext debug = refl
heap_fit key.StackPointer debug = refl
heap_fit key.AddHeapObject true = refl
heap_fit key.AddHeapObject false = refl
heap_fit key.BorrowedObjects debug = refl
heap_fit key.DropRef debug = refl
heap_fit key.GetObject debug = refl
heap_fit key.TakeObject debug = refl

module _ (k : HeapKey) (debug : Bool) where
  -- each uses these names, and no others
  pub heap_uses : AreSame (used_in (heap_words k debug)) (heap_used_names k)
  heap_uses = uses_are (facts (heap_words k debug)) (heap_used_names k) (heap_host_names k debug) (heap_fit k debug)

  pub heap_hosts : AreSame (hosted_in (heap_words k debug)) (heap_host_names k debug)
  heap_hosts = hosts_are (facts (heap_words k debug)) (heap_used_names k) (heap_host_names k debug) (heap_fit k debug)

  -- each fits where they are declared, and those of the host known
  pub heap_fits : (c : Context) → AreAmong (heap_used_names k) c.declared → AreAmong (heap_host_names k debug) c.hosts
      → Fits c (facts (heap_words k debug))
  heap_fits = fits_by_test (facts (heap_words k debug)) (heap_used_names k) (heap_host_names k debug) (heap_fit k debug)
