-- What imports bring in of each kind: functions, tables, memories, global variables and tags.
use Rattle.std.proofs.Common.{◌≡◌, ℕ, ◌≤◌, Bool, true, false, List, [], ◌∷◌, ◌++◌, length, Option, Some, None, refl, sym, ap, ◌∙◌, arith}
use Rattle.std.specs.Prelude.{count_by, is_some, slice_get}
use Rattle.std.specs.List.{AllByRecursion, filter_map, cons_option}
use Rattle.std.specs.Option.{option_map}
use Rattle.std.proofs.lemmas.Bool.{false≢true}
use Rattle.std.proofs.lemmas.List.Elements.{filter_map-append}
use Rattle.wasm_types.specs.declared.ids.FuncId.{FuncId}
use Rattle.wasm_types.specs.declared.ids.GlobalId.{GlobalId}
use Rattle.wasm_types.specs.declared.ids.ImportId.{ImportId}
use Rattle.wasm_types.specs.declared.ids.MemoryId.{MemoryId}
use Rattle.wasm_types.specs.declared.ids.TableId.{TableId}
use Rattle.wasm_types.specs.declared.ids.TagId.{TagId}
use Rattle.wasm_ops.specs.declared.ops.Numbering.{Numbering}
use Rattle.wasm_file.specs.Parts.{number_of, is_func, is_table, is_memory, is_global, is_tag}
use Rattle.wasm_file.specs.declared.entries.FileImport.{FileImport}
use Rattle.wasm_file.specs.declared.entries.ImportType.{ImportType}
use Rattle.wasm_file.specs.declared.entries.ImportType.TheVariants as asked
use Rattle.wasm_core.specs.declared.types.Func.{Func}
use Rattle.wasm_core.specs.declared.types.GlobalVar.{GlobalVar}
use Rattle.wasm_core.specs.declared.types.Import.{Import}
use Rattle.wasm_core.specs.declared.types.ImportKind.{ImportKind}
use Rattle.wasm_core.specs.declared.types.ImportKind.TheVariants as kinds
use Rattle.wasm_core.specs.declared.types.Memory.{Memory}
use Rattle.wasm_core.specs.declared.types.Table.{Table}
use Rattle.wasm_core.specs.declared.types.Tag.{Tag}
use Rattle.wasm_core.specs.Contents.{Contents}
use Rattle.wasm_emission.specs.Emission.{live, own, func_asked, table_asked, memory_asked, global_asked, tag_asked, import_asked, import_of_type, file_import}
use Rattle.wasm_core.specs.Parsing.{asks_func, asks_table, asks_memory, asks_global, asks_tag, places_of, kind_at, joined, imported_func, imported_table, imported_memory, imported_global, imported_tag}
use Rattle.wasm_core_laws.specs.ModuleFits.{IfThere, func_brought, table_brought, memory_brought, global_brought, tag_brought}
use Rattle.wasm_core_laws.proofs.Everywhere.{counted_same, kept_few, counted_more}
use Rattle.wasm_core_laws.proofs.ImportsBehind.{IsKind, if_asked}
use Rattle.wasm_core_laws.proofs.Entries.{live_some, joined_some}

-- ---- each kind

-- functions
pub func_kind : IsKind asks_func imported_func (λ (f : Func). f.«import») func_brought
func_kind = record { made = λ i x. made i x.«module» x.name x.ty; told = λ before x. told before x.«module» x.name x.ty }
  where
    made : (i : ImportId) (from name : List ℕ) (ty : ImportType) → option_map (λ (f : Func). f.«import») (imported_func i ty) ≡ if_asked (asks_func (record { «module» = from; name = name; ty = ty })) (Some i)
    made i from name (asked.Func ty) = refl
    made i from name _ = refl

    told : (before : List FileImport) (from name : List ℕ) (ty : ImportType) → func_brought (record { «module» = from; name = name; kind = kind_at (places_of before) ty }) ≡ if_asked (asks_func (record { «module» = from; name = name; ty = ty })) (count_by asks_func before)
    told before from name (asked.Func ty) = refl
    told before from name _ = refl

-- tables
pub table_kind : IsKind asks_table imported_table (λ (t : Table). t.«import») table_brought
table_kind = record { made = λ i x. made i x.«module» x.name x.ty; told = λ before x. told before x.«module» x.name x.ty }
  where
    made : (i : ImportId) (from name : List ℕ) (ty : ImportType) → option_map (λ (t : Table). t.«import») (imported_table i ty) ≡ if_asked (asks_table (record { «module» = from; name = name; ty = ty })) (Some i)
    made i from name (asked.Table elem limits) = refl
    made i from name _ = refl

    told : (before : List FileImport) (from name : List ℕ) (ty : ImportType) → table_brought (record { «module» = from; name = name; kind = kind_at (places_of before) ty }) ≡ if_asked (asks_table (record { «module» = from; name = name; ty = ty })) (count_by asks_table before)
    told before from name (asked.Table elem limits) = refl
    told before from name _ = refl

-- memories
pub memory_kind : IsKind asks_memory imported_memory (λ (x : Memory). x.«import») memory_brought
memory_kind = record { made = λ i x. made i x.«module» x.name x.ty; told = λ before x. told before x.«module» x.name x.ty }
  where
    made : (i : ImportId) (from name : List ℕ) (ty : ImportType) → option_map (λ (x : Memory). x.«import») (imported_memory i ty) ≡ if_asked (asks_memory (record { «module» = from; name = name; ty = ty })) (Some i)
    made i from name (asked.Memory limits) = refl
    made i from name _ = refl

    told : (before : List FileImport) (from name : List ℕ) (ty : ImportType) → memory_brought (record { «module» = from; name = name; kind = kind_at (places_of before) ty }) ≡ if_asked (asks_memory (record { «module» = from; name = name; ty = ty })) (count_by asks_memory before)
    told before from name (asked.Memory limits) = refl
    told before from name _ = refl

-- globals
pub global_kind : IsKind asks_global imported_global (λ (g : GlobalVar). g.«import») global_brought
global_kind = record { made = λ i x. made i x.«module» x.name x.ty; told = λ before x. told before x.«module» x.name x.ty }
  where
    made : (i : ImportId) (from name : List ℕ) (ty : ImportType) → option_map (λ (g : GlobalVar). g.«import») (imported_global i ty) ≡ if_asked (asks_global (record { «module» = from; name = name; ty = ty })) (Some i)
    made i from name (asked.Global ty mutable) = refl
    made i from name _ = refl

    told : (before : List FileImport) (from name : List ℕ) (ty : ImportType) → global_brought (record { «module» = from; name = name; kind = kind_at (places_of before) ty }) ≡ if_asked (asks_global (record { «module» = from; name = name; ty = ty })) (count_by asks_global before)
    told before from name (asked.Global ty mutable) = refl
    told before from name _ = refl

-- tags
pub tag_kind : IsKind asks_tag imported_tag (λ (t : Tag). t.«import») tag_brought
tag_kind = record { made = λ i x. made i x.«module» x.name x.ty; told = λ before x. told before x.«module» x.name x.ty }
  where
    made : (i : ImportId) (from name : List ℕ) (ty : ImportType) → option_map (λ (t : Tag). t.«import») (imported_tag i ty) ≡ if_asked (asks_tag (record { «module» = from; name = name; ty = ty })) (Some i)
    made i from name (asked.Tag ty) = refl
    made i from name _ = refl

    told : (before : List FileImport) (from name : List ℕ) (ty : ImportType) → tag_brought (record { «module» = from; name = name; kind = kind_at (places_of before) ty }) ≡ if_asked (asks_tag (record { «module» = from; name = name; ty = ty })) (count_by asks_tag before)
    told before from name (asked.Tag ty) = refl
    told before from name _ = refl

-- ---- how many imports there are of each kind

-- functions
pub funcs_counted : (imports : List FileImport) → number_of is_func imports ≡ count_by asks_func imports
unfolding number_of
funcs_counted imports = counted_same (λ (x : FileImport). is_func x.ty) asks_func (λ x. same x.«module» x.name x.ty) imports
  where
    same : (from name : List ℕ) (ty : ImportType) → is_func ty ≡ asks_func (record { «module» = from; name = name; ty = ty })
    same from name (asked.Func ty) = refl
    same from name _ = refl

-- tables
pub tables_counted : (imports : List FileImport) → number_of is_table imports ≡ count_by asks_table imports
unfolding number_of
tables_counted imports = counted_same (λ (x : FileImport). is_table x.ty) asks_table (λ x. same x.«module» x.name x.ty) imports
  where
    same : (from name : List ℕ) (ty : ImportType) → is_table ty ≡ asks_table (record { «module» = from; name = name; ty = ty })
    same from name (asked.Table elem limits) = refl
    same from name _ = refl

-- memories
pub memories_counted : (imports : List FileImport) → number_of is_memory imports ≡ count_by asks_memory imports
unfolding number_of
memories_counted imports = counted_same (λ (x : FileImport). is_memory x.ty) asks_memory (λ x. same x.«module» x.name x.ty) imports
  where
    same : (from name : List ℕ) (ty : ImportType) → is_memory ty ≡ asks_memory (record { «module» = from; name = name; ty = ty })
    same from name (asked.Memory limits) = refl
    same from name _ = refl

-- globals
pub globals_counted : (imports : List FileImport) → number_of is_global imports ≡ count_by asks_global imports
unfolding number_of
globals_counted imports = counted_same (λ (x : FileImport). is_global x.ty) asks_global (λ x. same x.«module» x.name x.ty) imports
  where
    same : (from name : List ℕ) (ty : ImportType) → is_global ty ≡ asks_global (record { «module» = from; name = name; ty = ty })
    same from name (asked.Global ty mutable) = refl
    same from name _ = refl

-- tags
pub tags_counted : (imports : List FileImport) → number_of is_tag imports ≡ count_by asks_tag imports
unfolding number_of
tags_counted imports = counted_same (λ (x : FileImport). is_tag x.ty) asks_tag (λ x. same x.«module» x.name x.ty) imports
  where
    same : (from name : List ℕ) (ty : ImportType) → is_tag ty ≡ asks_tag (record { «module» = from; name = name; ty = ty })
    same from name (asked.Tag ty) = refl
    same from name _ = refl

-- ---- imports that are written

-- the type that is asked for is of the kind that is brought in
pub record Tells (i : Import) (ty : ImportType) : Type 0 where
  pub funcs : is_func ty ≡ is_some (func_brought i)
  pub tables : is_table ty ≡ is_some (table_brought i)
  pub memories : is_memory ty ≡ is_some (memory_brought i)
  pub globals : is_global ty ≡ is_some (global_brought i)
  pub tags : is_tag ty ≡ is_some (tag_brought i)

module _ (from name : List ℕ) where
  -- an import of a function asks for a function, and so on
  func_told : (n : Numbering) (id : FuncId) (o : Option (Option Func)) → IfThere (Tells (record { «module» = from; name = name; kind = kinds.Func id })) (func_asked n o)
  func_told n id (Some (Some f)) = record { funcs = refl; tables = refl; memories = refl; globals = refl; tags = refl }
  func_told n id (Some None) = tt
  func_told n id None = tt

  -- the same of tables, memories, global variables and tags
  table_told : (id : TableId) (o : Option (Option Table)) → IfThere (Tells (record { «module» = from; name = name; kind = kinds.Table id })) (table_asked o)
  table_told id (Some (Some t)) = record { funcs = refl; tables = refl; memories = refl; globals = refl; tags = refl }
  table_told id (Some None) = tt
  table_told id None = tt

  memory_told : (id : MemoryId) (o : Option (Option Memory)) → IfThere (Tells (record { «module» = from; name = name; kind = kinds.Memory id })) (memory_asked o)
  memory_told id (Some (Some x)) = record { funcs = refl; tables = refl; memories = refl; globals = refl; tags = refl }
  memory_told id (Some None) = tt
  memory_told id None = tt

  global_told : (id : GlobalId) (o : Option (Option GlobalVar)) → IfThere (Tells (record { «module» = from; name = name; kind = kinds.Global id })) (global_asked o)
  global_told id (Some (Some g)) = record { funcs = refl; tables = refl; memories = refl; globals = refl; tags = refl }
  global_told id (Some None) = tt
  global_told id None = tt

  tag_told : (n : Numbering) (id : TagId) (o : Option (Option Tag)) → IfThere (Tells (record { «module» = from; name = name; kind = kinds.Tag id })) (tag_asked n o)
  tag_told n id (Some (Some t)) = record { funcs = refl; tables = refl; memories = refl; globals = refl; tags = refl }
  tag_told n id (Some None) = tt
  tag_told n id None = tt

  -- what is written for an import is of its kind
  import_told : (m : Contents) (n : Numbering) (kind : ImportKind) → IfThere (Tells (record { «module» = from; name = name; kind = kind })) (import_asked m n kind)
  unfolding import_asked
  import_told m n (kinds.Func id) = func_told n id (slice_get m.funcs id.0)
  import_told m n (kinds.Table id) = table_told id (slice_get m.tables id.0)
  import_told m n (kinds.Memory id) = memory_told id (slice_get m.memories id.0)
  import_told m n (kinds.Global id) = global_told id (slice_get m.globals id.0)
  import_told m n (kinds.Tag id) = tag_told n id (slice_get m.tags id.0)

-- of a kind no more imports are written than bring it in
pub written_few : (m : Contents) (n : Numbering) (kind : ImportType → Bool) (place : Import → Option ℕ) → ((i : Import) (ty : ImportType) → Tells i ty → kind ty ≡ is_some (place i)) → (xs : List Import) → number_of kind (filter_map (file_import m n) xs) ≤ length (filter_map place xs)
unfolding number_of
written_few m n kind place same [] = omega arith
written_few m n kind place same (i ∷ xs) =
    more i (import_asked m n i.kind) (place i) (filter_map (file_import m n) xs) (filter_map place xs) (import_told i.«module» i.name m n i.kind) refl (written_few m n kind place same xs)
  where
    more : (i : Import) (o : Option ImportType) (at : Option ℕ) (ys : List FileImport) (ns : List ℕ) → IfThere (Tells i) o → at ≡ place i → count_by (λ (x : FileImport). kind x.ty) ys ≤ length ns → count_by (λ (x : FileImport). kind x.ty) (cons_option (import_of_type i o) ys) ≤ length (cons_option at ns)
    more i None None ys ns h is le = le
    more i None (Some k) ys ns h is le = omega (arith, le)
    more i (Some ty) (Some k) ys ns h is le = let count = counted_more (λ (x : FileImport). kind x.ty) true (record { «module» = i.«module»; name = i.name; ty = ty }) ys (same i ty h ∙ ap is_some (sym is)) in omega (arith, count, le)
    more i (Some ty) None ys ns h is le = let count = counted_more (λ (x : FileImport). kind x.ty) false (record { «module» = i.«module»; name = i.name; ty = ty }) ys (same i ty h ∙ ap is_some (sym is)) in omega (arith, count, le)

-- of one's own entries no more are written than there are
pub own_few : {A B : Type 0} (import_of : A → Option ImportId) (made : A → B) (xs ys : List A) → AllByRecursion (λ x. is_some (import_of x) ≡ true) xs → length (filter_map (λ x. own (import_of x) (made x)) (live (joined xs ys))) ≤ length ys
own_few {A} {B} import_of made xs ys h =
    let f : A → Option B = λ x. own (import_of x) (made x) in
    rw (joined_some xs ys, live_some (xs ++ ys), filter_map-append f xs ys, none xs h) (kept_few f ys)
  where
    drops : {B : Type 0} (i : Option ImportId) (x : B) (ys : List B) → is_some i ≡ true → cons_option (own i x) ys ≡ ys
    drops (Some i) x ys is = refl
    drops None x ys is = absurd (false≢true is)

    none : (xs : List A) → AllByRecursion (λ x. is_some (import_of x) ≡ true) xs → filter_map (λ x. own (import_of x) (made x)) xs ≡ []
    none [] h = refl
    none (x ∷ xs) h = drops (import_of x) (made x) (filter_map (λ x. own (import_of x) (made x)) xs) h.0 ∙ none xs h.1
