-- A module one of whose tags is its own instead of imported is one.
use Rattle.std.proofs.Common.{◌≡◌, ℕ, ◌+◌, set, Option, Some, None, refl, sym, ap, subst, ◌∙◌, arith, zero-add}
use Rattle.std.specs.Prelude.{slice_get}
use Rattle.std.specs.List.{filter, filter_map}
use Rattle.std.specs.Option.{option_map}
use Rattle.std.proofs.lemmas.Option.{none-some, same_Some}
use Rattle.wasm_types.specs.declared.ids.ImportId.{ImportId}
use Rattle.wasm_reach.specs.declared.things.Thing.TheVariants as things
use Rattle.wasm_core.specs.Contents.{Contents}
use Rattle.wasm_core.specs.Edits.{tag_of, imported_tag, own_tag, tag_localized, localized}
use Rattle.wasm_emission.specs.Emission.{live}
use Rattle.wasm_collect.specs.Reach.{entry_of, entry_at}
use Rattle.wasm_core.specs.declared.types.Import.{Import}
use Rattle.wasm_core.specs.declared.types.ImportKind.{ImportKind}
use Rattle.wasm_core.specs.declared.types.ImportKind.TheVariants as kinds
use Rattle.wasm_core.specs.declared.types.Tag.{Tag}
use Rattle.wasm_core_laws.specs.ModuleFits.{FitsTagEntry, FitsImportEntry, func_brought, table_brought, memory_brought, global_brought, tag_brought, tag_imported, IsBroughtBy, IsLinked, IsModule}
use Rattle.wasm_core_laws.proofs.Brought.{is_another, nothing_dropped, one_dropped, place_gone}
use Rattle.wasm_core_laws.proofs.Carried.{start_fits, type_of_alike, Extends, FitIn, fit_in, alike_extends, linked_at, linked_by}
use Rattle.wasm_core_laws.proofs.Entries.{there_set, stayed_self, altered, altered_stayed, there_altered, dropped_at, altered_other}

-- a tag of the module's own
abbrev own : Tag → Tag
own t = record t { «import» = None }

-- what stands for a tag that is made the module's own
own_tag_is : (o : Option (Option Tag)) → own_tag o ≡ option_map own (entry_of o)
own_tag_is (Some (Some t)) = refl
own_tag_is (Some None) = refl
own_tag_is None = refl

-- ---- the import of a tag

-- an import of a tag is one of this tag
kind_of_tag : (kind : ImportKind) (t : ℕ) → tag_of kind ≡ Some t → kind ≡ kinds.Tag (record { 0 = t })
kind_of_tag (kinds.Tag id) t is = ap (λ (n : ℕ). kinds.Tag (record { 0 = n })) (same_Some id.0 t is)
kind_of_tag _ t is = absurd (none-some t is)

-- an import brings in the tag that it is of
tag_brought_is : (i : Import) → tag_brought i ≡ tag_of i.kind
tag_brought_is i = at_kind i.kind
  where
    at_kind : (kind : ImportKind) → tag_brought (record i { kind = kind }) ≡ tag_of kind
    at_kind (kinds.Func id) = refl
    at_kind (kinds.Table id) = refl
    at_kind (kinds.Memory id) = refl
    at_kind (kinds.Global id) = refl
    at_kind (kinds.Tag id) = refl

-- the import at a place that brings in a tag
imported_at : (o : Option (Option Import)) (t : ℕ) → imported_tag o ≡ Some t → (x : Import) × (entry_of o ≡ Some x) × (x.kind ≡ kinds.Tag (record { 0 = t }))
imported_at (Some (Some x)) t is = (x, refl, kind_of_tag x.kind t is)
imported_at _ t is = absurd (none-some t is)

-- an entry names one import
brought_once : {A : Type 0} (import_of : A → Option ImportId) (o : Option A) (p q : ℕ) → IsBroughtBy import_of p o → IsBroughtBy import_of q o → p ≡ q
brought_once import_of (Some x) p q a b = ap (λ (r : ImportId). r.0) (same_Some (record { 0 = p }) (record { 0 = q }) (sym a ∙ b))
brought_once import_of None p q a b = absurd a

-- ---- the module

module _ (m : Contents) (h : IsModule m) (i t : ℕ) (x : Import) (there : entry_at m.imports i ≡ Some x) (is_tag : x.kind ≡ kinds.Tag (record { 0 = t })) where
  -- the module with the tag as its own, without its import
  abbrev with_own_tag : Contents
  with_own_tag = record m { imports = set m.imports i None; tags = altered own t m.tags }

  -- no other import brings in the tag
  only : (j : ℕ) (y : Import) → entry_at m.imports j ≡ Some y → y.kind ≡ kinds.Tag (record { 0 = t }) → j ≡ i
  only j y is kind =
      let here : IsLinked m (0 + i) (kinds.Tag (record { 0 = t })) = subst (IsLinked m (0 + i)) is_tag (linked_at m m.imports 0 i x h.order.linked there) in
      let other : IsLinked m (0 + j) (kinds.Tag (record { 0 = t })) = subst (IsLinked m (0 + j)) kind (linked_at m m.imports 0 j y h.order.linked is) in
      let same : 0 + j ≡ 0 + i = brought_once (λ (t : Tag). t.«import») (entry_at m.tags t) (0 + j) (0 + i) other here in
      omega (arith, same)

  -- imports of all but the tag are linked as they were
  link_kept : (place : ℕ) (kind : ImportKind) → (kind ≡ kinds.Tag (record { 0 = t }) → ⊥) → IsLinked m place kind → IsLinked with_own_tag place kind
  link_kept place (kinds.Tag id) ne l = subst (IsBroughtBy (λ (t : Tag). t.«import») place) (sym (altered_other own t id.0 m.tags (λ e. ne (ap (λ (n : ℕ). kinds.Tag (record { 0 = n })) e)))) l
  link_kept place _ ne l = l

  -- the import brings in nothing but a tag
  brings_none : (brought : Import → Option ℕ) → brought (record x { kind = kinds.Tag (record { 0 = t }) }) ≡ None → filter_map brought (live m.imports) ≡ filter_map brought (live (set m.imports i None))
  brings_none brought none = sym (nothing_dropped brought m.imports i x there (ap (λ (k : ImportKind). brought (record x { kind = k })) is_tag ∙ none))

  -- what fitted fits
  own_tag_extends : Extends m with_own_tag
  own_tag_extends = alike_extends m with_own_tag (record {
    types = refl;
    funcs = stayed_self m.funcs;
    tables = stayed_self m.tables;
    memories = stayed_self m.memories;
    globals = stayed_self m.globals;
    tags = altered_stayed own t m.tags;
    elems = stayed_self m.elems;
    segments = stayed_self m.segments;
  })

  -- the module is one
  own_tag_is_module : IsModule with_own_tag
  own_tag_is_module =
      let ext : Extends m with_own_tag = own_tag_extends in
      let k : FitIn with_own_tag m = fit_in m with_own_tag ext h in
      let left_out : (0 + t) ≡ t = zero-add t in record {
        types = h.types;
        funcs = k.funcs;
        tables = h.tables;
        memories = h.memories;
        globals = k.globals;
        tags = there_altered (FitsTagEntry with_own_tag) own (λ x f. f) t m.tags k.tags;
        imports = there_set (FitsImportEntry with_own_tag) m.imports i None tt k.imports;
        exports = k.exports;
        elems = k.elems;
        segments = k.segments;
        start = start_fits m with_own_tag m.start (λ func is s. (ext.stand (things.Func func.0) s, type_of_alike m with_own_tag refl (entry_at m.funcs func.0))) h.start;
        customs = h.customs;
        name = h.name;
        producers = h.producers;
        order = record {
          linked = linked_by with_own_tag (set m.imports i None) 0 (λ j y is.
              let e = dropped_at m.imports i j y is in
              link_kept (0 + j) y.kind (λ kind. e.0 (only j y e.1 kind)) (linked_at m m.imports 0 j y h.order.linked e.1));
          funcs = h.order.funcs ∙ brings_none func_brought refl;
          tables = h.order.tables ∙ brings_none table_brought refl;
          memories = h.order.memories ∙ brings_none memory_brought refl;
          globals = h.order.globals ∙ brings_none global_brought refl;
          tags = place_gone tag_imported own (λ x. refl) t 0 m.tags ∙ ap (filter (is_another (0 + t))) h.order.tags
              ∙ ap (λ (n : ℕ). filter (is_another n) (filter_map tag_brought (live m.imports))) left_out
              ∙ sym (one_dropped tag_brought t m.imports i x there (tag_brought_is x ∙ ap tag_of is_tag) (λ j y is brings. only j y is (kind_of_tag y.kind t (sym (tag_brought_is y) ∙ brings))));
        };
      }

-- where the place holds an import of this tag, or of none
by_tag : (m : Contents) (i : ℕ) → IsModule m → (o : Option ℕ) → imported_tag (slice_get m.imports i) ≡ o → IsModule (tag_localized i o m)
by_tag m i h None is = h
by_tag m i h (Some t) is =
    let x = imported_at (slice_get m.imports i) t is in
    subst (λ (o : Option Tag). IsModule (record m { imports = set m.imports i None; tags = set m.tags t o })) (sym (own_tag_is (slice_get m.tags t))) (own_tag_is_module m h i t x.0 x.1 x.2)

pub localized_is_module : (m : Contents) (i : ℕ) → IsModule m → IsModule (localized i m)
unfolding localized
localized_is_module m i h = by_tag m i h (imported_tag (slice_get m.imports i)) refl
