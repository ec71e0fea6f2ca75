-- What fits a module fits another one, where what it names stands there too.
use Rattle.std.proofs.Common.{◌≡◌, ℕ, zero, suc, ◌+◌, List, [], ◌∷◌, length, Option, Some, None, refl, sym, ap, subst, ◌∙◌, arith, inl, inr}
use Rattle.std.specs.Prelude.{is_some}
use Rattle.std.specs.List.{AllByRecursion, enumerate_from}
use Rattle.std.proofs.lemmas.Option.{none-some}
use Rattle.values.specs.Lists.{IsIn}
use Rattle.wasm_bytes.specs.declared.counts.Counts.{Counts}
use Rattle.wasm_types.specs.declared.ids.FuncId.{FuncId}
use Rattle.wasm_types.specs.declared.ids.ImportId.{ImportId}
use Rattle.wasm_code.specs.declared.body.Body.{Body}
use Rattle.wasm_ops.specs.declared.ops.Op.{Op}
use Rattle.wasm_types.specs.declared.types.FuncType.{FuncType}
use Rattle.wasm_ops_laws.specs.Fits.{FitsBody}
use Rattle.wasm_file.specs.Parts.{is_plain}
use Rattle.wasm_file.specs.declared.entries.Elem.{Elem}
use Rattle.wasm_file.specs.declared.entries.Export.{Export}
use Rattle.wasm_file.specs.declared.entries.Segment.{Segment}
use Rattle.wasm_file_laws.specs.FileFits.{FitsInitials, FitsElem, FitsSegment}
use Rattle.wasm_reach.specs.declared.things.Thing.{Thing}
use Rattle.wasm_reach.specs.declared.things.Thing.TheVariants as things
use Rattle.wasm_core.specs.Contents.{Contents}
use Rattle.wasm_core.specs.Remainder.{import_thing}
use Rattle.wasm_collect.specs.Reach.{entry_at, ops_names, elem_names, segment_names, item_thing}
use Rattle.wasm_core.specs.declared.types.Func.{Func}
use Rattle.wasm_core.specs.declared.types.GlobalVar.{GlobalVar}
use Rattle.wasm_core.specs.declared.types.Import.{Import}
use Rattle.wasm_core.specs.declared.types.ImportKind.{ImportKind}
use Rattle.wasm_core.specs.declared.types.ImportKind.TheVariants as kinds
use Rattle.wasm_core.specs.declared.types.Memory.{Memory}
use Rattle.wasm_core.specs.declared.types.Table.{Table}
use Rattle.wasm_core.specs.declared.types.Tag.{Tag}
use Rattle.wasm_core_laws.specs.ModuleFits.{id_counts, Stands, AllStand, AllThere, type_of_func, FitsExpression, FitsCode, FitsFunc, FitsInit, FitsGlobalEntry, FitsTagEntry, FitsImportEntry, FitsExportEntry, FitsElemEntry, FitsSegmentEntry, IsStart, IsBroughtBy, IsLinked, IsLinkedAt, IsModule}
use Rattle.wasm_core_laws.proofs.Entries.{HaveStayed, stayed_same, there_weaker}

-- ---- what is named stands

-- those of these that stood in the first module stand in the second
abbrev pub Keep : Contents → Contents → List Thing → Type 0
Keep m n ts = (t : Thing) → IsIn t ts → Stands m t → Stands n t

-- what stood and is kept stands
all_stand : (m n : Contents) (ts : List Thing) → Keep m n ts → AllStand m ts → AllStand n ts
all_stand m n [] keep all = tt
all_stand m n (t ∷ ts) keep all = (keep t (inl refl) all.0, all_stand m n ts (λ u i. keep u (inr i)) all.1)

-- what fits the one counts fits the others
pub record AreKept (c d : Counts) : Type 0 where
  pub initials : (xs : List Op) → FitsInitials c xs → FitsInitials d xs
  pub body : (params : ℕ) (b : Body) → FitsBody c params b → FitsBody d params b
  pub elem : (e : Elem) → FitsElem c e → FitsElem d e
  pub segment : (s : Segment) → FitsSegment c s → FitsSegment d s

kept_self : (c : Counts) → AreKept c c
kept_self c = record {
  initials = λ xs h. h;
  body = λ params b h. h;
  elem = λ e h. h;
  segment = λ s h. h;
}

-- counts that are the same
pub counts_kept : (c d : Counts) → d ≡ c → AreKept c d
counts_kept c d same = subst (AreKept c) (sym same) (kept_self c)

-- counts and types of the first module are good for the second
pub record Carries (m n : Contents) : Type 0 where
  pub counts : AreKept (id_counts m) (id_counts n)
  pub types : (i : ℕ) → Stands m (things.Type i) → Stands n (things.Type i) → entry_at n.types i ≡ entry_at m.types i

-- ---- single entries

-- what a body names
abbrev pub code_names : Option Body → List Thing
code_names (Some b) = ops_names b.ops
code_names None = []

-- what a function names
abbrev pub func_things : Func → List Thing
func_things f = things.Type f.ty.0 ∷ code_names f.body

module _ (m n : Contents) (c : Carries m n) where
  expression_fits : (xs : List Op) → Keep m n (ops_names xs) → FitsExpression m xs → FitsExpression n xs
  expression_fits xs keep h = (c.counts.initials xs h.0, all_stand m n (ops_names xs) keep h.1)

  -- code that fitted fits
  code_carried : (ty : Option FuncType) (i : Option ImportId) (b : Option Body) → Keep m n (code_names b) → FitsCode m ty i b → FitsCode n ty i b
  code_carried ty None (Some b) keep h = (c.counts.body _ b h.0, all_stand m n (ops_names b.ops) keep h.1)
  code_carried ty _ _ keep h = h

  pub func_fits : (f : Func) → Keep m n (func_things f) → FitsFunc m f → FitsFunc n f
  func_fits f keep h =
      let stays : Stands n (things.Type f.ty.0) = keep (things.Type f.ty.0) (inl refl) h.ty_stands in record {
        ty_stands = stays;
        name_fits = h.name_fits;
        code_fits = subst (λ ty. FitsCode n ty f.«import» f.body) (sym (c.types f.ty.0 h.ty_stands stays)) (code_carried (entry_at m.types f.ty.0) f.«import» f.body (λ t i. keep t (inr i)) h.code_fits);
      }

  init_fits : (i : Option ImportId) (xs : List Op) → Keep m n (ops_names xs) → FitsInit m i xs → FitsInit n i xs
  init_fits None xs keep h = expression_fits xs keep h
  init_fits (Some i) xs keep h = h

  pub global_fits : (g : GlobalVar) → Keep m n (ops_names g.init) → FitsGlobalEntry m g → FitsGlobalEntry n g
  global_fits g keep h = init_fits g.«import» g.init keep h

  pub tag_fits : (t : Tag) → Keep m n (things.Type t.ty.0 ∷ []) → FitsTagEntry m t → FitsTagEntry n t
  tag_fits t keep h = keep (things.Type t.ty.0) (inl refl) h

  pub import_fits : (i : Import) → Keep m n (import_thing i.kind ∷ []) → FitsImportEntry m i → FitsImportEntry n i
  import_fits i keep h = record { module_fits = h.module_fits; name_fits = h.name_fits; item_stands = keep (import_thing i.kind) (inl refl) h.item_stands }

  pub export_fits : (e : Export) → Keep m n (item_thing e.item ∷ []) → FitsExportEntry m e → FitsExportEntry n e
  export_fits e keep h = record { name_fits = h.name_fits; item_stands = keep (item_thing e.item) (inl refl) h.item_stands }

  pub elem_fits : (e : Elem) → Keep m n (elem_names (Some e)) → FitsElemEntry m e → FitsElemEntry n e
  elem_fits e keep h = record { fits = c.counts.elem e h.fits; named_stand = all_stand m n (elem_names (Some e)) keep h.named_stand }

  pub segment_fits : (s : Segment) → Keep m n (segment_names (Some s)) → FitsSegmentEntry m s → FitsSegmentEntry n s
  segment_fits s keep h = record { fits = c.counts.segment s h.fits; named_stand = all_stand m n (segment_names (Some s)) keep h.named_stand }

-- the function at the place has the type that it had
abbrev pub IsAsTyped : Contents → Contents → ℕ → Type 0
IsAsTyped m n i = type_of_func n (entry_at n.funcs i) ≡ type_of_func m (entry_at m.funcs i)

-- a start function stays one where it stands with its type
pub start_fits : (m n : Contents) (s : Option FuncId) → ((func : FuncId) → s ≡ Some func → Stands m (things.Func func.0) → Stands n (things.Func func.0) × IsAsTyped m n func.0) → IsStart m s → IsStart n s
start_fits m n (Some func) keep h = let k = keep func refl h.0 in (k.0, ap is_plain k.1 ∙ h.1)
start_fits m n None keep h = tt

-- where the types are the same, a function has the same type
pub type_of_alike : (m n : Contents) → n.types ≡ m.types → (o : Option Func) → type_of_func n o ≡ type_of_func m o
type_of_alike m n same (Some f) = ap (λ xs. entry_at xs f.ty.0) same
type_of_alike m n same None = refl

-- ---- all entries

-- all that stood stands
pub record Extends (m n : Contents) : Type 0 where
  pub carries : Carries m n
  pub stand : (t : Thing) → Stands m t → Stands n t

-- the entries of the second module fit the first
pub record FitIn (n m : Contents) : Type 0 where
  pub funcs : AllThere (FitsFunc n) m.funcs
  pub globals : AllThere (FitsGlobalEntry n) m.globals
  pub tags : AllThere (FitsTagEntry n) m.tags
  pub imports : AllThere (FitsImportEntry n) m.imports
  pub exports : AllThere (FitsExportEntry n) m.exports
  pub elems : AllThere (FitsElemEntry n) m.elems
  pub segments : AllThere (FitsSegmentEntry n) m.segments

-- where all that stood stands, the entries fit
pub fit_in : (m n : Contents) → Extends m n → IsModule m → FitIn n m
fit_in m n e h = record {
  funcs = there_weaker (FitsFunc m) (FitsFunc n) (λ f. func_fits m n e.carries f (λ t i. e.stand t)) m.funcs h.funcs;
  globals = there_weaker (FitsGlobalEntry m) (FitsGlobalEntry n) (λ g. global_fits m n e.carries g (λ t i. e.stand t)) m.globals h.globals;
  tags = there_weaker (FitsTagEntry m) (FitsTagEntry n) (λ t. tag_fits m n e.carries t (λ t i. e.stand t)) m.tags h.tags;
  imports = there_weaker (FitsImportEntry m) (FitsImportEntry n) (λ i. import_fits m n e.carries i (λ t i. e.stand t)) m.imports h.imports;
  exports = there_weaker (FitsExportEntry m) (FitsExportEntry n) (λ x. export_fits m n e.carries x (λ t i. e.stand t)) m.exports h.exports;
  elems = there_weaker (FitsElemEntry m) (FitsElemEntry n) (λ x. elem_fits m n e.carries x (λ t i. e.stand t)) m.elems h.elems;
  segments = there_weaker (FitsSegmentEntry m) (FitsSegmentEntry n) (λ s. segment_fits m n e.carries s (λ t i. e.stand t)) m.segments h.segments;
}

-- the types are the same, and the places that held an entry hold one
pub record AreAlike (m n : Contents) : Type 0 where
  pub types : n.types ≡ m.types
  pub funcs : HaveStayed m.funcs n.funcs
  pub tables : HaveStayed m.tables n.tables
  pub memories : HaveStayed m.memories n.memories
  pub globals : HaveStayed m.globals n.globals
  pub tags : HaveStayed m.tags n.tags
  pub elems : HaveStayed m.elems n.elems
  pub segments : HaveStayed m.segments n.segments

-- lists that are the same are alike
pub alike_same : (m n : Contents) → n.types ≡ m.types → n.funcs ≡ m.funcs → n.tables ≡ m.tables → n.memories ≡ m.memories → n.globals ≡ m.globals → n.tags ≡ m.tags → n.elems ≡ m.elems → n.segments ≡ m.segments → AreAlike m n
alike_same m n types funcs tables memories globals tags elems segments = record {
  types = types;
  funcs = stayed_same m.funcs n.funcs funcs;
  tables = stayed_same m.tables n.tables tables;
  memories = stayed_same m.memories n.memories memories;
  globals = stayed_same m.globals n.globals globals;
  tags = stayed_same m.tags n.tags tags;
  elems = stayed_same m.elems n.elems elems;
  segments = stayed_same m.segments n.segments segments;
}

-- what stood in the first module stands in one that is alike
alike_stand : (m n : Contents) → AreAlike m n → (t : Thing) → Stands m t → Stands n t
alike_stand m n a (things.Type i) h = ap (λ xs. is_some (entry_at xs i)) a.types ∙ h
alike_stand m n a (things.Func i) h = a.funcs.stand i h
alike_stand m n a (things.Table i) h = a.tables.stand i h
alike_stand m n a (things.Memory i) h = a.memories.stand i h
alike_stand m n a (things.Global i) h = a.globals.stand i h
alike_stand m n a (things.Tag i) h = a.tags.stand i h
alike_stand m n a (things.Elem i) h = a.elems.stand i h
alike_stand m n a (things.Segment i) h = a.segments.stand i h

-- alike modules have as many entries
alike_counts : (m n : Contents) → AreAlike m n → id_counts n ≡ id_counts m
alike_counts m n a = rw (ap length a.types, a.funcs.same_len, a.tables.same_len, a.memories.same_len, a.globals.same_len, a.tags.same_len, a.elems.same_len, a.segments.same_len) refl

-- what fits a module fits one that is alike
pub alike_extends : (m n : Contents) → AreAlike m n → Extends m n
alike_extends m n a = record {
  carries = record {
    counts = counts_kept (id_counts m) (id_counts n) (alike_counts m n a);
    types = λ i _ _. ap (λ xs. entry_at xs i) a.types;
  };
  stand = alike_stand m n a;
}

-- ---- imports and what they bring in

-- each entry of the first list that names an import names it in the second
abbrev pub AreBroughtAlike : {A : Type 0} → (A → Option ImportId) → List (Option A) → List (Option A) → Type 0
AreBroughtAlike import_of xs ys = (i place : ℕ) → IsBroughtBy import_of place (entry_at xs i) → IsBroughtBy import_of place (entry_at ys i)

pub brought_self : {A : Type 0} (import_of : A → Option ImportId) (xs : List (Option A)) → AreBroughtAlike import_of xs xs
brought_self import_of xs i place h = h

brought_same : {A : Type 0} (import_of : A → Option ImportId) (xs ys : List (Option A)) → ys ≡ xs → AreBroughtAlike import_of xs ys
brought_same import_of xs ys same i place h = subst (λ zs. IsBroughtBy import_of place (entry_at zs i)) (sym same) h

-- what imports bring in is brought in as it was
pub record AreLinkedAlike (m n : Contents) : Type 0 where
  pub funcs : AreBroughtAlike (λ (f : Func). f.«import») m.funcs n.funcs
  pub tables : AreBroughtAlike (λ (t : Table). t.«import») m.tables n.tables
  pub memories : AreBroughtAlike (λ (x : Memory). x.«import») m.memories n.memories
  pub globals : AreBroughtAlike (λ (g : GlobalVar). g.«import») m.globals n.globals
  pub tags : AreBroughtAlike (λ (t : Tag). t.«import») m.tags n.tags

-- lists that are the same are linked alike
pub links_same : (m n : Contents) → n.funcs ≡ m.funcs → n.tables ≡ m.tables → n.memories ≡ m.memories → n.globals ≡ m.globals → n.tags ≡ m.tags → AreLinkedAlike m n
links_same m n funcs tables memories globals tags = record {
  funcs = brought_same (λ (f : Func). f.«import») m.funcs n.funcs funcs;
  tables = brought_same (λ (t : Table). t.«import») m.tables n.tables tables;
  memories = brought_same (λ (x : Memory). x.«import») m.memories n.memories memories;
  globals = brought_same (λ (g : GlobalVar). g.«import») m.globals n.globals globals;
  tags = brought_same (λ (t : Tag). t.«import») m.tags n.tags tags;
}

-- an import of the first module is linked in the second
linked_alike : (m n : Contents) → AreLinkedAlike m n → (place : ℕ) (kind : ImportKind) → IsLinked m place kind → IsLinked n place kind
linked_alike m n a place (kinds.Func id) h = a.funcs id.0 place h
linked_alike m n a place (kinds.Table id) h = a.tables id.0 place h
linked_alike m n a place (kinds.Memory id) h = a.memories id.0 place h
linked_alike m n a place (kinds.Global id) h = a.globals id.0 place h
linked_alike m n a place (kinds.Tag id) h = a.tags id.0 place h

-- the import at a place is linked
pub linked_at : (m : Contents) (xs : List (Option Import)) (k j : ℕ) (i : Import) → AllByRecursion (IsLinkedAt m) (enumerate_from k xs) → entry_at xs j ≡ Some i → IsLinked m (k + j) i.kind
linked_at m [] k j i all is = absurd (none-some i is)
linked_at m (x ∷ xs) k zero i all is =
    let here : k ≡ k + 0 = omega arith in
    subst (λ (p : ℕ). IsLinked m p i.kind) here (subst (λ (o : Option Import). IsLinkedAt m (k, o)) is all.0)
linked_at m (x ∷ xs) k (suc j) i all is =
    let next : k + 1 + j ≡ k + suc j = omega arith in
    subst (λ (p : ℕ). IsLinked m p i.kind) next (linked_at m xs (k + 1) j i all.1 is)

-- imports that are linked at each place are linked
pub linked_by : (m : Contents) (xs : List (Option Import)) (k : ℕ) → ((j : ℕ) (i : Import) → entry_at xs j ≡ Some i → IsLinked m (k + j) i.kind) → AllByRecursion (IsLinkedAt m) (enumerate_from k xs)
linked_by m [] k h = tt
linked_by m (None ∷ xs) k h = (
  tt,
  linked_by m xs (k + 1) (λ j i is.
      let next : k + suc j ≡ k + 1 + j = omega arith in
      subst (λ (p : ℕ). IsLinked m p i.kind) next (h (suc j) i is)),
)
linked_by m (Some x ∷ xs) k h = (
  (let here : k + 0 ≡ k = omega arith in subst (λ (p : ℕ). IsLinked m p x.kind) here (h zero x refl)),
  linked_by m xs (k + 1) (λ j i is.
      let next : k + suc j ≡ k + 1 + j = omega arith in
      subst (λ (p : ℕ). IsLinked m p i.kind) next (h (suc j) i is)),
)

-- where the entries are brought in alike, imports of the same items are linked alike
pub still_linked : (m n : Contents) → AreLinkedAlike m n → (k : ℕ) (xs ys : List (Option Import)) → ((j : ℕ) (y : Import) → entry_at ys j ≡ Some y → (x : Import) × (entry_at xs j ≡ Some x) × (x.kind ≡ y.kind)) → AllByRecursion (IsLinkedAt m) (enumerate_from k xs) → AllByRecursion (IsLinkedAt n) (enumerate_from k ys)
still_linked m n a k xs ys same all = linked_by n ys k (λ j y is.
    let x = same j y is in
    linked_alike m n a (k + j) y.kind (subst (IsLinked m (k + j)) x.2 (linked_at m xs k j x.0 all x.1)))
