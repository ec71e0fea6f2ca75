-- The lists of a file that was written are assembled as the same live entries, renumbered in the order of emission.
use Rattle.std.proofs.Common.{◌≡◌, ℕ, suc, ◌+◌, Bool, true, false, cond, List, [], ◌∷◌, ◌++◌, length, map, count_by, Option, Some, None, refl, sym, ap, subst, ◌∙◌, arith, append_assoc}
use Rattle.std.specs.Prelude.{⊤, is_some, not, slice_get}
use Rattle.std.specs.Option.{option_map}
use Rattle.std.specs.List.{filter, filter_map, cons_option, enumerate_from, AllByRecursion}
use Rattle.std.proofs.lemmas.List.{append-nil, length_push}
use Rattle.std.proofs.lemmas.List.Elements.{filter_map-append}
use Rattle.std.proofs.lemmas.List.Sums.{sum_by-cons}
use Rattle.std.proofs.lemmas.Option.{none-some, same_Some}
use Rattle.wasm_ops.specs.Numbers.{number_at}
use Rattle.wasm_code.specs.Numbers.{renumbered_ops, renumbered_body}
use Rattle.wasm_types.specs.declared.ids.ImportId.{ImportId}
use Rattle.wasm_types.specs.declared.ids.TypeId.{TypeId}
use Rattle.wasm_code.specs.declared.body.Body.{Body}
use Rattle.wasm_ops.specs.declared.ops.Op.{Op}
use Rattle.wasm_types.specs.declared.types.FuncType.{FuncType}
use Rattle.wasm_ops_laws.specs.Fits.{joined_body}
use Rattle.wasm_file.specs.declared.entries.FileImport.{FileImport}
use Rattle.wasm_file.specs.declared.entries.ImportType.{ImportType}
use Rattle.wasm_file.specs.declared.entries.ImportType.TheVariants as asked
use Rattle.wasm_file_laws.specs.FileFits.{joined_file}
use Rattle.wasm_core.specs.declared.types.Func.{Func}
use Rattle.wasm_core.specs.declared.types.GlobalVar.{GlobalVar}
use Rattle.wasm_core.specs.declared.types.Import.{Import}
use Rattle.wasm_core.specs.declared.types.ImportKind.{ImportKind}
use Rattle.wasm_core.specs.declared.types.ImportKind.TheVariants as kinds
use Rattle.wasm_core.specs.declared.types.Memory.{Memory}
use Rattle.wasm_core.specs.declared.types.Table.{Table}
use Rattle.wasm_core.specs.declared.types.Tag.{Tag}
use Rattle.wasm_core.specs.Contents.{Contents}
use Rattle.wasm_emission.specs.Emission.{live, own, file_type, func_asked, table_asked, memory_asked, global_asked, tag_asked, import_asked, import_of_type, file_import, body_or_empty, own_type, own_body, own_table, own_memory, own_tag, own_global, filed_by, filed}
use Rattle.wasm_core.specs.Parsing.{asks_func, asks_table, asks_memory, asks_global, asks_tag, places_of, kind_at, imports_behind, brought, imported_func, imported_table, imported_memory, imported_global, imported_tag, own_funcs, table_of, memory_of, global_of, tag_of, joined, all_funcs}
use Rattle.wasm_collect.specs.Reach.{places, entry_of, entry_at}
use Rattle.wasm_emission.specs.Renumbering.{numbers, numbering}
use Rattle.wasm_core_laws.specs.Again.{all_there, in_order, import_numbers, func_again, table_again, memory_again, global_again, tag_again, kind_again, import_again}
use Rattle.wasm_core_laws.specs.ModuleFits.{IsModule, IsBroughtBy, IsLinked, IsLinkedAt, FitsFunc, FitsCode, FitsInit, FitsGlobalEntry, func_brought, table_brought, memory_brought, global_brought, tag_brought, func_imported, table_imported, memory_imported, global_imported, tag_imported}
use Rattle.wasm_core_laws.proofs.FiledCounts.{places_found}
use Rattle.wasm_core_laws.proofs.Ordered.{number_behind, nth_number, joined_again}
use Rattle.wasm_core_laws.proofs.Entries.{all_live, there_at}

-- ---- what the imports of the file ask for

-- a function that is read, without its name
abbrev pub func_unnamed : Contents → Func → Func
func_unnamed m f = record (func_again m f) { name = None }

-- what an import of the entry asks for
abbrev func_asks : Contents → Func → ImportType
func_asks m f = asked.Func (file_type (numbering m) f.ty)

abbrev table_asks : Table → ImportType
table_asks t = asked.Table t.elem t.limits

abbrev memory_asks : Memory → ImportType
memory_asks x = asked.Memory x.limits

abbrev global_asks : GlobalVar → ImportType
global_asks g = asked.Global g.ty g.mutable

abbrev tag_asks : Contents → Tag → ImportType
tag_asks m t = asked.Tag (file_type (numbering m) t.ty)

-- the type is that of the entry at a place, and where the k-th import asks for it, this entry is read again
record IsBrought {A : Type 0} (xs : List (Option A)) (again : A → A) (make : ImportId → ImportType → Option A) (asks : A → ImportType) (k place : ℕ) (ty : ImportType) : Type 0 where
  entry : A
  stands : entry_at xs place ≡ Some entry
  asked_for : ty ≡ asks entry
  read : make (record { 0 = k }) ty ≡ Some (again entry)

-- the k-th import of the file asks for the type of the item
abbrev IsAsked : Contents → ℕ → ImportKind → ImportType → Type 0
IsAsked m k (kinds.Func id) ty = IsBrought m.funcs (func_unnamed m) imported_func (func_asks m) k id.0 ty
IsAsked m k (kinds.Table id) ty = IsBrought m.tables (table_again m) imported_table table_asks k id.0 ty
IsAsked m k (kinds.Memory id) ty = IsBrought m.memories (memory_again m) imported_memory memory_asks k id.0 ty
IsAsked m k (kinds.Global id) ty = IsBrought m.globals (global_again m) imported_global global_asks k id.0 ty
IsAsked m k (kinds.Tag id) ty = IsBrought m.tags (tag_again m) imported_tag (tag_asks m) k id.0 ty

-- the k-th import of the file stands for an import
record IsWritten (m : Contents) (k : ℕ) (i : Import) (f : FileImport) : Type 0 where
  module_same : f.«module» ≡ i.«module»
  name_same : f.name ≡ i.name
  asked_for : IsAsked m k i.kind f.ty

-- the imports of the file, from the k-th on, stand for imports
abbrev AreWritten : Contents → ℕ → List Import → List FileImport → Type 0
AreWritten m k [] [] = ⊤
AreWritten m k [] (f ∷ fs) = ⊥
AreWritten m k (i ∷ is) [] = ⊥
AreWritten m k (i ∷ is) (f ∷ fs) = IsWritten m k i f × AreWritten m (k + 1) is fs

-- ---- what is linked is written

-- the entry that names the import at a place
linked_entry : {A : Type 0} (import_of : A → Option ImportId) (place : ℕ) (o : Option (Option A)) → IsBroughtBy import_of place (entry_of o) → (x : A) × (o ≡ Some (Some x)) × (import_of x ≡ Some (record { 0 = place }))
linked_entry import_of place (Some (Some x)) h = (x, refl, h)
linked_entry import_of place (Some None) h = absurd h
linked_entry import_of place None h = absurd h

-- a function that is imported has no body
no_body : (m : Contents) (ty : Option FuncType) (i : Option ImportId) (b : Option Body) (place : ImportId) → FitsCode m ty i b → i ≡ Some place → b ≡ None
no_body m ty None b place h is = absurd (none-some place is)
no_body m ty (Some i) None place h is = refl
no_body m ty (Some i) (Some b) place h is = absurd h

-- a global variable that is imported has no initial expression
no_init : (m : Contents) (i : Option ImportId) (init : List Op) (place : ImportId) → FitsInit m i init → i ≡ Some place → init ≡ []
no_init m None init place h is = absurd (none-some place is)
no_init m (Some i) init place h is = h

module _ (m : Contents) (module_fits : IsModule m) (place k : ℕ) (numbered : number_at (import_numbers m) place ≡ k) where
  -- a function that the import at the place brings in, which is the k-th that is live, is read again, and so on
  func_read : (f : Func) → f.«import» ≡ Some (record { 0 = place }) → f.body ≡ None → imported_func (record { 0 = k }) (func_asks m f) ≡ Some (func_unnamed m f)
  func_read f linked empty = rw (linked, empty, numbered) refl

  table_read : (t : Table) → t.«import» ≡ Some (record { 0 = place }) → imported_table (record { 0 = k }) (table_asks t) ≡ Some (table_again m t)
  table_read t linked = rw (linked, numbered) refl

  memory_read : (x : Memory) → x.«import» ≡ Some (record { 0 = place }) → imported_memory (record { 0 = k }) (memory_asks x) ≡ Some (memory_again m x)
  memory_read x linked = rw (linked, numbered) refl

  global_read : (g : GlobalVar) → g.«import» ≡ Some (record { 0 = place }) → g.init ≡ [] → imported_global (record { 0 = k }) (global_asks g) ≡ Some (global_again m g)
  global_read g linked empty = rw (linked, empty, numbered) refl

  tag_read : (t : Tag) → t.«import» ≡ Some (record { 0 = place }) → imported_tag (record { 0 = k }) (tag_asks m t) ≡ Some (tag_again m t)
  tag_read t linked = rw (linked, numbered) refl

  -- the item of an import is there, and the import asks for it
  linked_asked : (kind : ImportKind) → IsLinked m place kind → (ty : ImportType) × (import_asked m (numbering m) kind ≡ Some ty) × IsAsked m k kind ty
  unfolding import_asked
  linked_asked (kinds.Func id) h =
      let e = linked_entry (λ (f : Func). f.«import») place (slice_get m.funcs id.0) h in
      let fits = there_at (FitsFunc m) m.funcs id.0 e.0 module_fits.funcs (ap entry_of e.1) in
      let empty = no_body m (entry_at m.types e.0.ty.0) e.0.«import» e.0.body (record { 0 = place }) fits.code_fits e.2 in
      (func_asks m e.0, ap (func_asked (numbering m)) e.1, record { entry = e.0; stands = ap entry_of e.1; asked_for = refl; read = func_read e.0 e.2 empty })
  linked_asked (kinds.Table id) h =
      let e = linked_entry (λ (t : Table). t.«import») place (slice_get m.tables id.0) h in
      (table_asks e.0, ap table_asked e.1, record { entry = e.0; stands = ap entry_of e.1; asked_for = refl; read = table_read e.0 e.2 })
  linked_asked (kinds.Memory id) h =
      let e = linked_entry (λ (x : Memory). x.«import») place (slice_get m.memories id.0) h in
      (memory_asks e.0, ap memory_asked e.1, record { entry = e.0; stands = ap entry_of e.1; asked_for = refl; read = memory_read e.0 e.2 })
  linked_asked (kinds.Global id) h =
      let e = linked_entry (λ (g : GlobalVar). g.«import») place (slice_get m.globals id.0) h in
      let fits = there_at (FitsGlobalEntry m) m.globals id.0 e.0 module_fits.globals (ap entry_of e.1) in
      let empty = no_init m e.0.«import» e.0.init (record { 0 = place }) fits e.2 in
      (global_asks e.0, ap global_asked e.1, record { entry = e.0; stands = ap entry_of e.1; asked_for = refl; read = global_read e.0 e.2 empty })
  linked_asked (kinds.Tag id) h =
      let e = linked_entry (λ (t : Tag). t.«import») place (slice_get m.tags id.0) h in
      (tag_asks m e.0, ap (tag_asked (numbering m)) e.1, record { entry = e.0; stands = ap entry_of e.1; asked_for = refl; read = tag_read e.0 e.2 })

  -- a linked import is written
  linked_written : (i : Import) → IsLinked m place i.kind → (f : FileImport) × (file_import m (numbering m) i ≡ Some f) × IsWritten m k i f
  linked_written i h =
      let a = linked_asked i.kind h in
      (record { «module» = i.«module»; name = i.name; ty = a.0 }, ap (import_of_type i) a.1, record { module_same = refl; name_same = refl; asked_for = a.2 })

module _ (m : Contents) (module_fits : IsModule m) where
  -- from a place on
  written_behind : (front rest : List (Option Import)) → m.imports ≡ front ++ rest → AllByRecursion (IsLinkedAt m) (enumerate_from (length front) rest) → AreWritten m (length (live front)) (live rest) (filter_map (file_import m (numbering m)) (live rest))
  written_behind front [] is h = tt
  written_behind front (Some i ∷ rest) is h =
      let w = linked_written m module_fits (length front) (length (live front)) (number_behind m.imports front rest i is) i h.0 in
      let next = written_behind (front ++ Some i ∷ []) rest (is ∙ sym (append_assoc front (Some i ∷ []) rest)) (subst (λ n. AllByRecursion (IsLinkedAt m) (enumerate_from n rest)) (sym (length_push front (Some i))) h.1) in
      let one : length (live (front ++ Some i ∷ [])) ≡ length (live front) + 1 = ap length (filter_map-append (λ x. x) front (Some i ∷ [])) ∙ length_push (live front) i in
      rw (w.1) (w.2, subst (λ n. AreWritten m n (live rest) (filter_map (file_import m (numbering m)) (live rest))) one next)
  written_behind front (None ∷ rest) is h =
      let next = written_behind (front ++ None ∷ []) rest (is ∙ sym (append_assoc front (None ∷ []) rest)) (subst (λ n. AllByRecursion (IsLinkedAt m) (enumerate_from n rest)) (sym (length_push front None)) h.1) in
      let same : length (live (front ++ None ∷ [])) ≡ length (live front) = ap length (filter_map-append (λ x. x) front (None ∷ []) ∙ append-nil (live front)) in
      subst (λ n. AreWritten m n (live rest) (filter_map (file_import m (numbering m)) (live rest))) same next

  -- the imports of the file stand for the live imports
  imports_written : AreWritten m 0 (live m.imports) (filter_map (file_import m (numbering m)) (live m.imports))
  imports_written = written_behind [] m.imports refl module_fits.order.linked

-- ---- what the imports of the file bring in

-- the entry at a place, if any, as it is read
abbrev found : {A : Type 0} → (A → A) → List (Option A) → Option ℕ → Option A
found again xs (Some place) = option_map again (entry_at xs place)
found again xs None = None

-- what is to be known of a kind of entries
record IsKindAgain {A : Type 0} (m : Contents) (xs : List (Option A)) (test : A → Bool) (again : A → A) (make : ImportId → ImportType → Option A) (brought_by : Import → Option ℕ) (asks : FileImport → Bool) : Type 0 where
  brings : (k : ℕ) (i : Import) (f : FileImport) → IsWritten m k i f → make (record { 0 = k }) f.ty ≡ found again xs (brought_by i)
  asks_same : (k : ℕ) (i : Import) (f : FileImport) → IsWritten m k i f → asks f ≡ is_some (brought_by i)
  ordered : places test 0 xs ≡ filter_map brought_by (live m.imports)

-- an entry, if any, as it is read
one_found : {A : Type 0} (again : A → A) (o : Option A) (xs : List A) → cons_option (option_map again o) (map again xs) ≡ map again (cons_option o xs)
one_found again (Some x) xs = refl
one_found again None xs = refl

-- the entry at one place more
next_found : {A : Type 0} (again : A → A) (xs : List (Option A)) (place : Option ℕ) (ps : List ℕ) → cons_option (found again xs place) (map again (filter_map (entry_at xs) ps)) ≡ map again (filter_map (entry_at xs) (cons_option place ps))
next_found again xs (Some place) ps = one_found again (entry_at xs place) (filter_map (entry_at xs) ps)
next_found again xs None ps = refl

-- one import more
one_counted : (place : Option ℕ) (ps : List ℕ) (asks : Bool) (n : ℕ) → asks ≡ is_some place → n ≡ length ps → cond asks 1 0 + n ≡ length (cons_option place ps)
one_counted (Some place) ps asks n is same = rw is (omega (arith, same))
one_counted None ps asks n is same = rw is (omega (arith, same))

module _ {A : Type 0} (m : Contents) (xs : List (Option A)) (test : A → Bool) (again : A → A) (make : ImportId → ImportType → Option A) (brought_by : Import → Option ℕ) (asks : FileImport → Bool) (kind : IsKindAgain m xs test again make brought_by asks) where
  -- from the k-th import on the imports bring in the entries at the places
  again_from : (k : ℕ) (is : List Import) (fs : List FileImport) → AreWritten m k is fs → filter_map (λ p. make (record { 0 = p.0 }) p.1.ty) (enumerate_from k fs) ≡ map again (filter_map (entry_at xs) (filter_map brought_by is))
  again_from k [] [] h = refl
  again_from k [] (f ∷ fs) h = absurd h
  again_from k (i ∷ is) [] h = absurd h
  again_from k (i ∷ is) (f ∷ fs) h =
      ap (λ o. cons_option o (filter_map (λ p. make (record { 0 = p.0 }) p.1.ty) (enumerate_from (k + 1) fs))) (kind.brings k i f h.0)
      ∙ ap (cons_option (found again xs (brought_by i))) (again_from (k + 1) is fs h.1)
      ∙ next_found again xs (brought_by i) (filter_map brought_by is)

  -- the imports bring in the entries that are imported, in order
  brought_again : (fs : List FileImport) → AreWritten m 0 (live m.imports) fs → brought make fs ≡ map again (filter test (live xs))
  brought_again fs h = again_from 0 (live m.imports) fs h ∙ ap (λ ps. map again (filter_map (entry_at xs) ps)) (sym kind.ordered) ∙ ap (map again) (places_found test xs)

  -- as many imports of the file ask for the kind as bring one in
  count_asked : (k : ℕ) (is : List Import) (fs : List FileImport) → AreWritten m k is fs → count_by asks fs ≡ length (filter_map brought_by is)
  count_asked k [] [] h = refl
  count_asked k [] (f ∷ fs) h = absurd h
  count_asked k (i ∷ is) [] h = absurd h
  count_asked k (i ∷ is) (f ∷ fs) h =
      sum_by-cons (λ g. cond (asks g) 1 0) f fs
      ∙ one_counted (brought_by i) (filter_map brought_by is) (asks f) (count_by asks fs) (kind.asks_same k i f h.0) (count_asked (k + 1) is fs h.1)

  -- how many imports ask for the kind before one that does is the number of its item
  count_number : (front rest : List Import) (i : Import) (before : List FileImport) → live m.imports ≡ front ++ i ∷ rest → AreWritten m 0 front before → (place : ℕ) → brought_by i ≡ Some place → count_by asks before ≡ number_at (numbers test xs) place
  count_number front rest i before is h place brings =
      let split : places test 0 xs ≡ filter_map brought_by front ++ place ∷ filter_map brought_by rest =
      kind.ordered ∙ ap (filter_map brought_by) is ∙ filter_map-append brought_by front (i ∷ rest) ∙ ap (λ o. filter_map brought_by front ++ cons_option o (filter_map brought_by rest)) brings in
      count_asked 0 front before h ∙ sym (nth_number test xs (filter_map brought_by front) (filter_map brought_by rest) place split)

-- ---- the five kinds

module _ (m : Contents) (k : ℕ) (module_name name : List ℕ) where
  -- an import of the kind
  abbrev import_of : ImportKind → Import
  import_of kind = record { «module» = module_name; name = name; kind = kind }

  -- an import of the file of the type
  abbrev file_import_of : ImportType → FileImport
  file_import_of ty = record { «module» = module_name; name = name; ty = ty }

  -- an import of the file brings in a function, as it is read, where the import does, and so on
  brings_func : (kind : ImportKind) (ty : ImportType) → IsAsked m k kind ty → imported_func (record { 0 = k }) ty ≡ found (func_unnamed m) m.funcs (func_brought (import_of kind))
  brings_func (kinds.Func id) ty h = h.read ∙ sym (ap (option_map (func_unnamed m)) h.stands)
  brings_func _ ty h = ap (imported_func (record { 0 = k })) h.asked_for

  brings_table : (kind : ImportKind) (ty : ImportType) → IsAsked m k kind ty → imported_table (record { 0 = k }) ty ≡ found (table_again m) m.tables (table_brought (import_of kind))
  brings_table (kinds.Table id) ty h = h.read ∙ sym (ap (option_map (table_again m)) h.stands)
  brings_table _ ty h = ap (imported_table (record { 0 = k })) h.asked_for

  brings_memory : (kind : ImportKind) (ty : ImportType) → IsAsked m k kind ty → imported_memory (record { 0 = k }) ty ≡ found (memory_again m) m.memories (memory_brought (import_of kind))
  brings_memory (kinds.Memory id) ty h = h.read ∙ sym (ap (option_map (memory_again m)) h.stands)
  brings_memory _ ty h = ap (imported_memory (record { 0 = k })) h.asked_for

  brings_global : (kind : ImportKind) (ty : ImportType) → IsAsked m k kind ty → imported_global (record { 0 = k }) ty ≡ found (global_again m) m.globals (global_brought (import_of kind))
  brings_global (kinds.Global id) ty h = h.read ∙ sym (ap (option_map (global_again m)) h.stands)
  brings_global _ ty h = ap (imported_global (record { 0 = k })) h.asked_for

  brings_tag : (kind : ImportKind) (ty : ImportType) → IsAsked m k kind ty → imported_tag (record { 0 = k }) ty ≡ found (tag_again m) m.tags (tag_brought (import_of kind))
  brings_tag (kinds.Tag id) ty h = h.read ∙ sym (ap (option_map (tag_again m)) h.stands)
  brings_tag _ ty h = ap (imported_tag (record { 0 = k })) h.asked_for

  -- an import of the file asks for a function where the import brings one in, and so on
  asks_same_func : (kind : ImportKind) (ty : ImportType) → IsAsked m k kind ty → asks_func (file_import_of ty) ≡ is_some (func_brought (import_of kind))
  asks_same_func (kinds.Func id) ty h = ap (λ t. asks_func (file_import_of t)) h.asked_for
  asks_same_func _ ty h = ap (λ t. asks_func (file_import_of t)) h.asked_for

  asks_same_table : (kind : ImportKind) (ty : ImportType) → IsAsked m k kind ty → asks_table (file_import_of ty) ≡ is_some (table_brought (import_of kind))
  asks_same_table (kinds.Table id) ty h = ap (λ t. asks_table (file_import_of t)) h.asked_for
  asks_same_table _ ty h = ap (λ t. asks_table (file_import_of t)) h.asked_for

  asks_same_memory : (kind : ImportKind) (ty : ImportType) → IsAsked m k kind ty → asks_memory (file_import_of ty) ≡ is_some (memory_brought (import_of kind))
  asks_same_memory (kinds.Memory id) ty h = ap (λ t. asks_memory (file_import_of t)) h.asked_for
  asks_same_memory _ ty h = ap (λ t. asks_memory (file_import_of t)) h.asked_for

  asks_same_global : (kind : ImportKind) (ty : ImportType) → IsAsked m k kind ty → asks_global (file_import_of ty) ≡ is_some (global_brought (import_of kind))
  asks_same_global (kinds.Global id) ty h = ap (λ t. asks_global (file_import_of t)) h.asked_for
  asks_same_global _ ty h = ap (λ t. asks_global (file_import_of t)) h.asked_for

  asks_same_tag : (kind : ImportKind) (ty : ImportType) → IsAsked m k kind ty → asks_tag (file_import_of ty) ≡ is_some (tag_brought (import_of kind))
  asks_same_tag (kinds.Tag id) ty h = ap (λ t. asks_tag (file_import_of t)) h.asked_for
  asks_same_tag _ ty h = ap (λ t. asks_tag (file_import_of t)) h.asked_for

module _ (m : Contents) (module_fits : IsModule m) where
  -- what is known of functions, and so on
  func_kind_again : IsKindAgain m m.funcs func_imported (func_unnamed m) imported_func func_brought asks_func
  func_kind_again = record {
    brings = λ k i f h. brings_func m k i.«module» i.name i.kind f.ty h.asked_for;
    asks_same = λ k i f h. asks_same_func m k i.«module» i.name i.kind f.ty h.asked_for;
    ordered = module_fits.order.funcs;
  }

  table_kind_again : IsKindAgain m m.tables table_imported (table_again m) imported_table table_brought asks_table
  table_kind_again = record {
    brings = λ k i f h. brings_table m k i.«module» i.name i.kind f.ty h.asked_for;
    asks_same = λ k i f h. asks_same_table m k i.«module» i.name i.kind f.ty h.asked_for;
    ordered = module_fits.order.tables;
  }

  memory_kind_again : IsKindAgain m m.memories memory_imported (memory_again m) imported_memory memory_brought asks_memory
  memory_kind_again = record {
    brings = λ k i f h. brings_memory m k i.«module» i.name i.kind f.ty h.asked_for;
    asks_same = λ k i f h. asks_same_memory m k i.«module» i.name i.kind f.ty h.asked_for;
    ordered = module_fits.order.memories;
  }

  global_kind_again : IsKindAgain m m.globals global_imported (global_again m) imported_global global_brought asks_global
  global_kind_again = record {
    brings = λ k i f h. brings_global m k i.«module» i.name i.kind f.ty h.asked_for;
    asks_same = λ k i f h. asks_same_global m k i.«module» i.name i.kind f.ty h.asked_for;
    ordered = module_fits.order.globals;
  }

  tag_kind_again : IsKindAgain m m.tags tag_imported (tag_again m) imported_tag tag_brought asks_tag
  tag_kind_again = record {
    brings = λ k i f h. brings_tag m k i.«module» i.name i.kind f.ty h.asked_for;
    asks_same = λ k i f h. asks_same_tag m k i.«module» i.name i.kind f.ty h.asked_for;
    ordered = module_fits.order.tags;
  }

-- ---- imports

-- so many imports ask for the kind as the number of what the import brings in
abbrev IsNext : (Import → Option ℕ) → (FileImport → Bool) → List ℕ → List FileImport → Import → Type 0
IsNext brought_by asks numbers before i = (place : ℕ) → brought_by i ≡ Some place → count_by asks before ≡ number_at numbers place

-- of each kind
record AreNext (m : Contents) (before : List FileImport) (i : Import) : Type 0 where
  funcs : IsNext func_brought asks_func (numbering m).funcs before i
  tables : IsNext table_brought asks_table (numbering m).tables before i
  memories : IsNext memory_brought asks_memory (numbering m).memories before i
  globals : IsNext global_brought asks_global (numbering m).globals before i
  tags : IsNext tag_brought asks_tag (numbering m).tags before i

-- the item is read by its number
kind_read : (m : Contents) (k : ℕ) (before : List FileImport) (module_name name : List ℕ) (kind : ImportKind) (ty : ImportType) → IsAsked m k kind ty → AreNext m before (import_of m k module_name name kind) → kind_at (places_of before) ty ≡ kind_again (numbering m) kind
kind_read m k before module_name name (kinds.Func id) ty h next = ap (kind_at (places_of before)) h.asked_for ∙ ap (λ n. kinds.Func (record { 0 = n })) (next.funcs id.0 refl)
kind_read m k before module_name name (kinds.Table id) ty h next = ap (kind_at (places_of before)) h.asked_for ∙ ap (λ n. kinds.Table (record { 0 = n })) (next.tables id.0 refl)
kind_read m k before module_name name (kinds.Memory id) ty h next = ap (kind_at (places_of before)) h.asked_for ∙ ap (λ n. kinds.Memory (record { 0 = n })) (next.memories id.0 refl)
kind_read m k before module_name name (kinds.Global id) ty h next = ap (kind_at (places_of before)) h.asked_for ∙ ap (λ n. kinds.Global (record { 0 = n })) (next.globals id.0 refl)
kind_read m k before module_name name (kinds.Tag id) ty h next = ap (kind_at (places_of before)) h.asked_for ∙ ap (λ n. kinds.Tag (record { 0 = n })) (next.tags id.0 refl)

-- an import is read with the number of its item
import_read : (m : Contents) (k : ℕ) (before : List FileImport) (i : Import) (f : FileImport) → IsWritten m k i f → AreNext m before i → record { «module» = f.«module»; name = f.name; kind = kind_at (places_of before) f.ty } ≡ import_again m i
import_read m k before i f h next = rw (h.module_same, h.name_same, kind_read m k before i.«module» i.name i.kind f.ty h.asked_for next) refl

-- the imports of the file, one more among them, stand for imports
written_more : (m : Contents) (k : ℕ) (is : List Import) (fs : List FileImport) (i : Import) (f : FileImport) → AreWritten m k is fs → IsWritten m (k + length is) i f → AreWritten m k (is ++ i ∷ []) (fs ++ f ∷ [])
written_more m k [] [] i f h one = (let same : k + 0 ≡ k = omega arith in subst (λ n. IsWritten m n i f) same one, tt)
written_more m k [] (g ∷ fs) i f h one = absurd h
written_more m k (j ∷ is) [] i f h one = absurd h
written_more m k (j ∷ is) (g ∷ fs) i f h one = (h.0, (let next : k + suc (length is) ≡ k + 1 + length is = omega arith in written_more m (k + 1) is fs i f h.1 (subst (λ n. IsWritten m n i f) next one)))

module _ (m : Contents) (module_fits : IsModule m) where
  -- behind the imports before it
  next_numbers : (front rest : List Import) (i : Import) (before : List FileImport) → live m.imports ≡ front ++ i ∷ rest → AreWritten m 0 front before → AreNext m before i
  unfolding numbering
  next_numbers front rest i before is h = record {
    funcs = count_number m m.funcs func_imported (func_unnamed m) imported_func func_brought asks_func (func_kind_again m module_fits) front rest i before is h;
    tables = count_number m m.tables table_imported (table_again m) imported_table table_brought asks_table (table_kind_again m module_fits) front rest i before is h;
    memories = count_number m m.memories memory_imported (memory_again m) imported_memory memory_brought asks_memory (memory_kind_again m module_fits) front rest i before is h;
    globals = count_number m m.globals global_imported (global_again m) imported_global global_brought asks_global (global_kind_again m module_fits) front rest i before is h;
    tags = count_number m m.tags tag_imported (tag_again m) imported_tag tag_brought asks_tag (tag_kind_again m module_fits) front rest i before is h;
  }

  -- from an import on
  imports_from : (front rest : List Import) (before fs : List FileImport) → live m.imports ≡ front ++ rest → AreWritten m 0 front before → AreWritten m (length front) rest fs → imports_behind before fs ≡ all_there (import_again m) rest
  unfolding imports_behind
  imports_from front [] before [] is done h = refl
  imports_from front [] before (f ∷ fs) is done h = absurd h
  imports_from front (i ∷ rest) before [] is done h = absurd h
  imports_from front (i ∷ rest) before (f ∷ fs) is done h =
      let first : length front ≡ 0 + length front = omega arith in
      let more = written_more m 0 front before i f done (subst (λ n. IsWritten m n i f) first h.0) in
      let later = imports_from (front ++ i ∷ []) rest (before ++ f ∷ []) fs (is ∙ sym (append_assoc front (i ∷ []) rest)) more (subst (λ n. AreWritten m n rest fs) (sym (length_push front i)) h.1) in
      ap (λ j. Some j ∷ imports_behind (before ++ f ∷ []) fs) (import_read m (length front) before i f h.0 (next_numbers front rest i before is done))
      ∙ ap (λ js. Some (import_again m i) ∷ js) later

  -- the imports of the file are read as the live imports, renumbered
  pub imports_again : imports_behind [] (filed m).imports ≡ all_there (import_again m) (live m.imports)
  unfolding filed_by
  imports_again = imports_from [] (live m.imports) [] (filed m).imports refl tt (imports_written m module_fits)

-- ---- entries that aren't imported

-- what is made of an entry of one's own, none of an imported one
own_case : {B C : Type 0} (i : Option ImportId) (make : B → C) (y : B) (z : C) → (i ≡ None → make y ≡ z) → option_map make (own i y) ≡ cond (is_some i) None (Some z)
own_case None make y z h = ap Some (h refl)
own_case (Some i) make y z h = refl

-- one entry more
own_one : {A B C : Type 0} (make : B → C) (again : A → C) (o : Option B) (imported : Bool) (x : A) (ys : List B) (xs : List A) → option_map make o ≡ cond imported None (Some (again x)) → map make ys ≡ map again xs → map make (cons_option o ys) ≡ map again (cond (not imported) (x ∷ xs) xs)
own_one make again None true x ys xs is rest = rest
own_one make again None false x ys xs is rest = absurd (none-some (again x) is)
own_one make again (Some y) true x ys xs is rest = absurd (none-some (make y) (sym is))
own_one make again (Some y) false x ys xs is rest = ap (λ z. z ∷ map make ys) (same_Some (make y) (again x) is) ∙ ap (λ zs. again x ∷ zs) rest

-- what is made of the entries of one's own in the file is what these are again
own_again : {A B C : Type 0} (import_of : A → Option ImportId) (own_of : A → Option B) (make : B → C) (again : A → C) → ((x : A) → option_map make (own_of x) ≡ cond (is_some (import_of x)) None (Some (again x))) → (xs : List A) → map make (filter_map own_of xs) ≡ map again (filter (λ x. not (is_some (import_of x))) xs)
own_again import_of own_of make again each [] = refl
own_again import_of own_of make again each (x ∷ xs) =
    own_one make again (own_of x) (is_some (import_of x)) x (filter_map own_of xs) (filter (λ y. not (is_some (import_of y))) xs) (each x) (own_again import_of own_of make again each xs)

-- a function of one's own has a body
own_body_there : (m : Contents) (ty : Option FuncType) (i : Option ImportId) (b : Option Body) → FitsCode m ty i b → i ≡ None → (c : Body) × (b ≡ Some c)
own_body_there m ty None (Some c) h is = (c, refl)
own_body_there m ty None None h is = absurd h
own_body_there m ty (Some i) b h is = absurd (none-some i (sym is))

-- one function more
own_func_one : (m : Contents) (i : Option ImportId) (ty : TypeId) (b : Body) (f : Func) (types : List TypeId) (bodies : List Body) (fs : List Func) → (i ≡ None → record { ty = ty; name = None; «import» = None; body = Some (joined_body b) } ≡ func_unnamed m f) → own_funcs types (map joined_body bodies) ≡ map (func_unnamed m) fs → own_funcs (cons_option (own i ty) types) (map joined_body (cons_option (own i b) bodies)) ≡ map (func_unnamed m) (cond (not (is_some i)) (f ∷ fs) fs)
unfolding own_funcs
own_func_one m None ty b f types bodies fs h rest = ap (λ g. g ∷ own_funcs types (map joined_body bodies)) (h refl) ∙ ap (λ gs. func_unnamed m f ∷ gs) rest
own_func_one m (Some i) ty b f types bodies fs h rest = rest

-- the functions of one's own are read again
own_funcs_again : (m : Contents) (fs : List Func) → AllByRecursion (FitsFunc m) fs → own_funcs (filter_map (own_type (numbering m)) fs) (map joined_body (filter_map (own_body (numbering m)) fs)) ≡ map (func_unnamed m) (filter (λ f. not (func_imported f)) fs)
unfolding own_funcs
own_funcs_again m [] h = refl
own_funcs_again m (f ∷ fs) h =
    let n = numbering m in
    own_func_one m f.«import» (file_type n f.ty) (renumbered_body n (body_or_empty f.body)) f (filter_map (own_type n) fs) (filter_map (own_body n) fs) (filter (λ f. not (func_imported f)) fs)
    (λ is. let b = own_body_there m (entry_at m.types f.ty.0) f.«import» f.body h.0.code_fits is in rw (is, b.1) refl)
    (own_funcs_again m fs h.1)

-- ---- the fields of the module that is read

module _ (m : Contents) (module_fits : IsModule m) where
  -- the functions without their names
  pub funcs_again : all_funcs (joined_file (filed m)) ≡ all_there (func_unnamed m) (in_order func_imported m.funcs)
  unfolding filed_by
  funcs_again = joined_again (func_unnamed m) func_imported m.funcs (brought imported_func (filed m).imports) (own_funcs (joined_file (filed m)).functions (joined_file (filed m)).bodies)
      (brought_again m m.funcs func_imported (func_unnamed m) imported_func func_brought asks_func (func_kind_again m module_fits) (filed m).imports (imports_written m module_fits))
      (own_funcs_again m (live m.funcs) (all_live (FitsFunc m) m.funcs module_fits.funcs))

  -- the tables, and so on
  pub tables_again : joined (brought imported_table (filed m).imports) (map table_of (filed m).tables) ≡ all_there (table_again m) (in_order table_imported m.tables)
  unfolding filed_by
  tables_again = joined_again (table_again m) table_imported m.tables (brought imported_table (filed m).imports) (map table_of (filed m).tables)
      (brought_again m m.tables table_imported (table_again m) imported_table table_brought asks_table (table_kind_again m module_fits) (filed m).imports (imports_written m module_fits))
      (own_again (λ (t : Table). t.«import») own_table table_of (table_again m) (λ t. own_case t.«import» table_of (record { elem = t.elem; limits = t.limits }) (table_again m t) (λ is. rw is refl)) (live m.tables))

  pub memories_again : joined (brought imported_memory (filed m).imports) (map memory_of (filed m).memories) ≡ all_there (memory_again m) (in_order memory_imported m.memories)
  unfolding filed_by
  memories_again = joined_again (memory_again m) memory_imported m.memories (brought imported_memory (filed m).imports) (map memory_of (filed m).memories)
      (brought_again m m.memories memory_imported (memory_again m) imported_memory memory_brought asks_memory (memory_kind_again m module_fits) (filed m).imports (imports_written m module_fits))
      (own_again (λ (x : Memory). x.«import») own_memory memory_of (memory_again m) (λ x. own_case x.«import» memory_of x.limits (memory_again m x) (λ is. rw is refl)) (live m.memories))

  pub globals_again : joined (brought imported_global (filed m).imports) (map global_of (filed m).globals) ≡ all_there (global_again m) (in_order global_imported m.globals)
  unfolding filed_by
  globals_again = joined_again (global_again m) global_imported m.globals (brought imported_global (filed m).imports) (map global_of (filed m).globals)
      (brought_again m m.globals global_imported (global_again m) imported_global global_brought asks_global (global_kind_again m module_fits) (filed m).imports (imports_written m module_fits))
      (own_again (λ (g : GlobalVar). g.«import») (own_global (numbering m)) global_of (global_again m) (λ g. own_case g.«import» global_of (record { ty = g.ty; mutable = g.mutable; init = renumbered_ops (numbering m) g.init }) (global_again m g) (λ is. rw is refl)) (live m.globals))

  pub tags_again : joined (brought imported_tag (filed m).imports) (map tag_of (filed m).tags) ≡ all_there (tag_again m) (in_order tag_imported m.tags)
  unfolding filed_by
  tags_again = joined_again (tag_again m) tag_imported m.tags (brought imported_tag (filed m).imports) (map tag_of (filed m).tags)
      (brought_again m m.tags tag_imported (tag_again m) imported_tag tag_brought asks_tag (tag_kind_again m module_fits) (filed m).imports (imports_written m module_fits))
      (own_again (λ (t : Tag). t.«import») (own_tag (numbering m)) tag_of (tag_again m) (λ t. own_case t.«import» tag_of (file_type (numbering m) t.ty) (tag_again m t) (λ is. rw is refl)) (live m.tags))
