-- A module with other names of an import or a function is one.
use Rattle.std.proofs.Common.{◌≡◌, ℕ, zero, suc, List, [], ◌∷◌, set, Option, Some, None, refl, sym, ap, subst, ◌∙◌}
use Rattle.std.specs.Prelude.{slice_get}
use Rattle.std.specs.Option.{option_map}
use Rattle.std.proofs.lemmas.Option.{none-some, same_Some}
use Rattle.wasm_file_laws.specs.FileFits.{FitsName}
use Rattle.wasm_reach.specs.declared.things.Thing.TheVariants as things
use Rattle.wasm_core.specs.Contents.{Contents}
use Rattle.wasm_core.specs.Edits.{renamed, with_import, func_named, with_func_name}
use Rattle.wasm_collect.specs.Reach.{entry_of, entry_at}
use Rattle.wasm_core.specs.declared.types.Func.{Func}
use Rattle.wasm_core.specs.declared.types.GlobalVar.{GlobalVar}
use Rattle.wasm_core.specs.declared.types.Import.{Import}
use Rattle.wasm_core.specs.declared.types.Memory.{Memory}
use Rattle.wasm_core.specs.declared.types.Table.{Table}
use Rattle.wasm_core.specs.declared.types.Tag.{Tag}
use Rattle.wasm_core_laws.specs.ModuleFits.{type_of_func, FitsFunc, FitsImportEntry, func_brought, table_brought, memory_brought, global_brought, tag_brought, func_imported, IsBroughtBy, IsModule}
use Rattle.wasm_core_laws.proofs.Carried.{IsAsTyped, start_fits, type_of_alike, Extends, FitIn, fit_in, alike_same, alike_extends, brought_self, AreLinkedAlike, links_same, still_linked}
use Rattle.wasm_core_laws.proofs.ParsedNames.{named_func}
use Rattle.wasm_core_laws.proofs.Entries.{stayed_self, altered, altered_keeps, altered_stayed, there_altered, live_altered, places_altered}

-- ---- names of imports

-- an import with this module and name
abbrev named_import : List ℕ → List ℕ → Import → Import
named_import «module» name i = record i { «module» = «module»; name = name }

-- what stands for an import that is renamed
renamed_is : («module» name : List ℕ) (o : Option (Option Import)) → renamed «module» name o ≡ option_map (named_import «module» name) (entry_of o)
renamed_is «module» name (Some (Some i)) = refl
renamed_is «module» name (Some None) = refl
renamed_is «module» name None = refl

-- an import of the renamed ones was one of the same item
import_from_altered : («module» name : List ℕ) (i j : ℕ) (xs : List (Option Import)) (y : Import) → entry_at (altered (named_import «module» name) i xs) j ≡ Some y → (x : Import) × (entry_at xs j ≡ Some x) × (x.kind ≡ y.kind)
import_from_altered «module» name i j [] y is = absurd (none-some y is)
import_from_altered «module» name zero zero (Some x ∷ xs) y is = (x, refl, ap (λ (z : Import). z.kind) (same_Some (named_import «module» name x) y is))
import_from_altered «module» name zero zero (None ∷ xs) y is = absurd (none-some y is)
import_from_altered «module» name zero (suc j) (x ∷ xs) y is = (y, is, refl)
import_from_altered «module» name (suc i) zero (x ∷ xs) y is = (y, is, refl)
import_from_altered «module» name (suc i) (suc j) (x ∷ xs) y is = import_from_altered «module» name i j xs y is

-- the module with other names of one import is one
import_altered : (m : Contents) (i : ℕ) («module» name : List ℕ) → IsModule m → FitsName «module» → FitsName name → IsModule (record m { imports = altered (named_import «module» name) i m.imports })
import_altered m i «module» name h module_fits name_fits =
    let g : Import → Import = named_import «module» name in
    let n : Contents = record m { imports = altered g i m.imports } in
    let ext : Extends m n = alike_extends m n (alike_same m n refl refl refl refl refl refl refl refl) in
    let k : FitIn n m = fit_in m n ext h in record {
      types = h.types;
      funcs = k.funcs;
      tables = h.tables;
      memories = h.memories;
      globals = k.globals;
      tags = k.tags;
      imports = there_altered (FitsImportEntry n) g (λ x f. record { module_fits = module_fits; name_fits = name_fits; item_stands = f.item_stands }) i m.imports k.imports;
      exports = k.exports;
      elems = k.elems;
      segments = k.segments;
      start = start_fits m n m.start (λ func is s. (ext.stand (things.Func func.0) s, type_of_alike m n refl (entry_at m.funcs func.0))) h.start;
      customs = h.customs;
      name = h.name;
      producers = h.producers;
      order = record {
        linked = still_linked m n (links_same m n refl refl refl refl refl) 0 m.imports (altered g i m.imports) (λ j. import_from_altered «module» name i j m.imports) h.order.linked;
        funcs = h.order.funcs ∙ sym (live_altered func_brought g (λ x. refl) i m.imports);
        tables = h.order.tables ∙ sym (live_altered table_brought g (λ x. refl) i m.imports);
        memories = h.order.memories ∙ sym (live_altered memory_brought g (λ x. refl) i m.imports);
        globals = h.order.globals ∙ sym (live_altered global_brought g (λ x. refl) i m.imports);
        tags = h.order.tags ∙ sym (live_altered tag_brought g (λ x. refl) i m.imports);
      };
    }

pub with_import_is_module : (m : Contents) (i : ℕ) («module» name : List ℕ) → IsModule m → FitsName «module» → FitsName name → IsModule (with_import i «module» name m)
unfolding with_import
with_import_is_module m i «module» name h module_fits name_fits =
    subst (λ (o : Option Import). IsModule (record m { imports = set m.imports i o })) (sym (renamed_is «module» name (slice_get m.imports i))) (import_altered m i «module» name h module_fits name_fits)

-- ---- names of functions

-- the function at a place with this name
func_named_is : (name : List ℕ) (o : Option (Option Func)) → func_named name o ≡ option_map (named_func (Some name)) (entry_of o)
func_named_is name (Some (Some f)) = refl
func_named_is name (Some None) = refl
func_named_is name None = refl

-- the module with another name of one function is one
func_altered : (m : Contents) (i : ℕ) (name : List ℕ) → IsModule m → FitsName name → IsModule (record m { funcs = altered (named_func (Some name)) i m.funcs })
func_altered m i name h fits =
    let g : Func → Func = named_func (Some name) in
    let n : Contents = record m { funcs = altered g i m.funcs } in
    let ext : Extends m n = alike_extends m n (record {
      types = refl;
      funcs = altered_stayed g i m.funcs;
      tables = stayed_self m.tables;
      memories = stayed_self m.memories;
      globals = stayed_self m.globals;
      tags = stayed_self m.tags;
      elems = stayed_self m.elems;
      segments = stayed_self m.segments;
    }) in
    let k : FitIn n m = fit_in m n ext h in
    let links : AreLinkedAlike m n = record {
      funcs = λ j place. altered_keeps (IsBroughtBy (λ (f : Func). f.«import») place) g (λ f e. e) m.funcs i j;
      tables = brought_self (λ (t : Table). t.«import») m.tables;
      memories = brought_self (λ (x : Memory). x.«import») m.memories;
      globals = brought_self (λ (g : GlobalVar). g.«import») m.globals;
      tags = brought_self (λ (t : Tag). t.«import») m.tags;
    } in
    let typed : (j : ℕ) → IsAsTyped m n j = λ j. altered_keeps (λ o. type_of_func n o ≡ type_of_func m (entry_at m.funcs j)) g (λ f e. e) m.funcs i j (type_of_alike m n refl (entry_at m.funcs j)) in record {
      types = h.types;
      funcs = there_altered (FitsFunc n) g (λ f x. record { ty_stands = x.ty_stands; name_fits = fits; code_fits = x.code_fits }) i m.funcs k.funcs;
      tables = h.tables;
      memories = h.memories;
      globals = k.globals;
      tags = k.tags;
      imports = k.imports;
      exports = k.exports;
      elems = k.elems;
      segments = k.segments;
      start = start_fits m n m.start (λ func is s. (ext.stand (things.Func func.0) s, typed func.0)) h.start;
      customs = h.customs;
      name = h.name;
      producers = h.producers;
      order = record {
        linked = still_linked m n links 0 m.imports m.imports (λ j y is. (y, is, refl)) h.order.linked;
        funcs = places_altered func_imported g (λ f. refl) i 0 m.funcs ∙ h.order.funcs;
        tables = h.order.tables;
        memories = h.order.memories;
        globals = h.order.globals;
        tags = h.order.tags;
      };
    }

pub with_func_name_is_module : (m : Contents) (i : ℕ) (name : List ℕ) → IsModule m → FitsName name → IsModule (with_func_name i name m)
unfolding with_func_name
with_func_name_is_module m i name h fits =
    subst (λ (o : Option Func). IsModule (record m { funcs = set m.funcs i o })) (sym (func_named_is name (slice_get m.funcs i))) (func_altered m i name h fits)
