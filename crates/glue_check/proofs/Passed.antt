-- What is known of a description that has no fault: one lemma a condition, in the words of its users.
use Rattle.std.proofs.Common.{◌≡◌, ℕ, ℤ, zero, suc, ◌+◌, ◌==◌, List, [], ◌∷◌, map, length, arith, Bool, true, false, not, ◌&&◌, ◌||◌, cond, Option, Some, None, true≢false, refl, sym, ap, subst, ◌∙◌, inl, inr, rules}
use Rattle.std.specs.Prelude.{is_some, option_map, option_and_then}
use Rattle.std.specs.Option.{option_or}
use Rattle.std.specs.Str.{bytes_eq}
use Rattle.std.specs.List.{list_any, filter_map, find, flat_map}
use Rattle.std.specs.Ordering.{nat_cmp}
use Rattle.std.specs.BTreeMap.{is_at}
use Rattle.std.specs.Cmp.{Equal-is}
use Rattle.std.proofs.lemmas.Bool.{and_parts, eqb-true, false≢true}
use Rattle.std.proofs.lemmas.Bool.Decides.{nat_tests}
use Rattle.std.proofs.lemmas.Map.Lookups.{exact_unsigned}
use Rattle.std.proofs.lemmas.Slice.Eq.{bytes_eq-Decides}
use Rattle.values.specs.Lists.{IsIn, IsAway, AreDistinct}
use Rattle.values.specs.Map.{look_up}
use Rattle.values.proofs.Members.{in_left, in_either}
use Rattle.wasm_core.specs.ids.ExportId.{ExportId}
use Rattle.wasm_core.specs.ids.ImportId.{ImportId}
use Rattle.wasm_core.specs.types.FuncType.{FuncType}
use Rattle.wasm_core.specs.declared.types.Import.{Import}
use Rattle.wasm_core.specs.entries.Export.{Export}
use Rattle.glue_words.specs.Ident.{is_ident}
use Rattle.glue_shared.specs.declared.adapter.Adapter.{Adapter}
use Rattle.glue_shared.specs.declared.aux.AuxEnum.{AuxEnum}
use Rattle.glue_shared.specs.declared.aux.AuxExport.{AuxExport}
use Rattle.glue_shared.specs.declared.import.AuxImport.{AuxImport}
use Rattle.glue_shared.specs.declared.description.Lowered.{Lowered}
use Rattle.glue_shared.specs.declared.settings.Settings.{Settings}
use Rattle.glue_shared.specs.declared.import.JsImport.{JsImport}
use Rattle.glue_shared.specs.declared.import.JsImportName.{JsImportName}
use Rattle.glue_shared.specs.Names as names
use Rattle.glue_shared.specs.Names.{is_one_of, has_number, implemented, js_import, fixed_names, described_hosts, described_names, own_imports, own_names}
use Rattle.glue_adapters.specs.Resolving.{entry_at}
use Rattle.glue_faults.specs.declared.fault.Fault.TheVariants as faults
use Rattle.glue_faults.specs.First.{first_of, first_after, where_true}
use Rattle.glue_faults.specs.Clash.{first_clash, first_clash_after, AreCompatible}
use Rattle.glue_faults.specs.declared.fault.Fault.{Fault}
use Rattle.glue_faults.proofs.First.{first_of-none, some-none, where_true-none, option_map-none, find-none, neither}
use Rattle.glue_faults.proofs.After.{after-none, new_numbers}
use Rattle.glue_faults.proofs.Apart.{compatible}
use Rattle.glue_adapters.specs.Adapters as adapters
use Rattle.glue_adapters.specs.Adapters.{adapter_at, code_of, has_code, fits_outward, fits_inward}
use Rattle.glue_adapters.specs.Stack.{closure_kinds, export_type, js_kinds}
use Rattle.glue_adapters.specs.Pairs as pairs
use Rattle.glue_adapters.specs.Pairs.{is_bad_code, is_bad_pair, is_bad_export, bad_id, bad_local, bad_paired, bad_called, bad_exported, bad_described, bad_listed, environment_of, fits_export, fits_pair, is_bad_callback, is_unbound, outward_kinds}
use Rattle.glue_check.specs.declared.verdict.Condition.TheVariants as conditions
use Rattle.glue_check.specs.Answers.{answer}
use Rattle.glue_adapters.specs.Exported.{export_name, export_names}
use Rattle.glue_exports.proofs.Joined.{from_map}
use Rattle.glue_published.specs.Clash.{thing_clash}
use Rattle.glue_published.specs.Fixed.{fixed_thing}
use Rattle.glue_published.specs.Named.{is_proto_name, bad_path, is_bad_variant, bad_class, bad_enum, bad_declared_name, bad_export_name}
use Rattle.glue_published.specs.Reexports.{bad_reexport}
use Rattle.claimed_modules.specs.declared.modules.Claimed.{Claimed}
use Rattle.glue_names.specs.Given.{given_names, other_names}
use Rattle.claimed_modules.specs.Modules as modules
use Rattle.claimed_modules.specs.Modules.{clashing_module, foreign_module}
use Rattle.glue_names.specs.Naming as naming
use Rattle.glue_names.specs.Naming.{bad_text, name_clash, written_clash}
use Rattle.glue_names.specs.Taken.{brought, global_of, name_if}
use Rattle.glue_check.specs.Verdict.{verdict, is_shared}
use Rattle.glue_check.proofs.Conditions.{none_of}
use Rattle.glue_check.proofs.BuiltForm.{away, not_false}
use Rattle.glue_names.proofs.GivenNames.{either_host, none_other, omitted_given}
use Rattle.glue_names.proofs.Called.{number_in, or_last}
use Rattle.glue_names.proofs.Globals.{from_flat, in_flat}

-- no memory is shared
pub no_threads : (s : Settings) (l : Lowered) → verdict s l ≡ None → list_any is_shared l.«module».memories ≡ false
unfolding answer
no_threads s l h = where_true-none (list_any is_shared l.«module».memories) faults.Threads (none_of conditions.Threads s l (search rules) h)

-- each instruction of an adapter is one that something carries out
pub carried_out : (s : Settings) (l : Lowered) → verdict s l ≡ None → (e : ℕ × Adapter) → IsIn e l.wit.adapters → first_of adapters.unsupported_name (code_of e.1.kind) ≡ None
unfolding answer
carried_out s l h e i = option_map-none (λ name. faults.UnsupportedInstr e.0 name) (first_of adapters.unsupported_name (code_of e.1.kind)) (first_of-none adapters.unsupported_in l.wit.adapters e (none_of conditions.UnsupportedInstr s l (search rules) h) i)

-- ---- adapters

-- what is looked up is an entry
pub looked_up : (entries : List (ℕ × Adapter)) (id : ℕ) (a : Adapter) → look_up nat_cmp entries id ≡ Some a → IsIn (id, a) entries
looked_up [] id a h = cc
looked_up (e ∷ entries) id a h = here (is_at (nat_cmp id) e.0) refl h (looked_up entries id a)
  where
    here : (b : Bool) → is_at (nat_cmp id) e.0 ≡ b → cond b (Some e.1) (look_up nat_cmp entries id) ≡ Some a
        → (look_up nat_cmp entries id ≡ Some a → IsIn (id, a) entries) → IsIn (id, a) (e ∷ entries)
    here true q h later = let key : id ≡ e.0 = exact_unsigned id e.0 ((Equal-is (nat_cmp id e.0)).0 q) in let same : e.1 ≡ a = cc in inl (ap (λ (k : ℕ). (k, a)) key ∙ ap (λ (x : Adapter). (e.0, x)) (sym same))
    here false q h later = inr (later h)

-- what is known of the adapters of a description without a fault
pub record AreFit (l : Lowered) : Type 0 where
  pub coded : (e : ℕ × Adapter) → IsIn e l.wit.adapters → is_bad_code l (environment_of l) (pairs.paired l) e ≡ false
  pub paired : first_after (is_bad_pair l (environment_of l) (pairs.described l)) [] l.wit.implements ≡ None
  pub called : (pair : ExportId × ℕ) → IsIn pair l.wit.exports → is_bad_callback l (pairs.paired l) pair ≡ false
  pub exported : first_after (is_bad_export l (pairs.paired l) (pairs.called_back l)) [] l.aux.exports ≡ None
  pub entries : (e : ℕ × AuxImport) → IsIn e l.aux.imports → pairs.is_bad_entry l l.aux.imports_with_variadic e ≡ false

pub fit_adapters : (s : Settings) (l : Lowered) → verdict s l ≡ None → AreFit l
unfolding answer bad_id bad_local bad_paired bad_called bad_exported bad_described
fit_adapters s l h =
    let env = environment_of l in
    let none = option_map-none faults.BadAdapter (bad_id l env) (none_of conditions.BadAdapter s l (search rules) h) in
    let answers = bad_local l env ∷ bad_paired l env ∷ bad_called l ∷ bad_exported l env ∷ bad_described l ∷ bad_listed l ∷ [] in
    let callback = find (is_bad_callback l (pairs.paired l)) l.wit.exports in
    let code = find (is_bad_code l (environment_of l) (pairs.paired l)) l.wit.adapters in
    let pair = first_after (is_bad_pair l (environment_of l) (pairs.described l)) [] l.wit.implements in
    let export = first_after (is_bad_export l (pairs.paired l) (pairs.called_back l)) [] l.aux.exports in
    let entry = find (pairs.is_bad_entry l l.aux.imports_with_variadic) l.aux.imports in record {
      coded = λ e i. find-none (is_bad_code l (environment_of l) (pairs.paired l)) l.wit.adapters e (option_map-none (λ (e : ℕ × Adapter). e.0) code (some-none answers (bad_local l env) none (inl refl))) i;
      paired = option_map-none (λ (p : ImportId × ℕ). p.1) pair (some-none answers (bad_paired l env) none (inr (inl refl)));
      called = λ pair i. find-none (is_bad_callback l (pairs.paired l)) l.wit.exports pair (option_map-none (λ (p : ExportId × ℕ). p.1) callback (some-none answers (bad_called l) none (inr (inr (inl refl))))) i;
      exported = option_map-none (λ (e : AuxExport). e.adapter) export (some-none answers (bad_exported l env) none (inr (inr (inr (inl refl)))));
      entries = λ e i. find-none (pairs.is_bad_entry l l.aux.imports_with_variadic) l.aux.imports e (option_map-none (λ (e : ℕ × AuxImport). e.0) entry (some-none answers (bad_described l) none (inr (inr (inr (inr (inl refl))))))) i;
    }

-- ---- exports

-- an export with its adapter: it has code, passes JavaScript values to an export of the module, and is what it is described as
pub record IsFitExport (l : Lowered) (e : AuxExport) : Type 0 where
  pub adapter : Adapter
  pub there : adapter_at l e.adapter ≡ Some adapter
  pub coded : has_code adapter.kind ≡ true
  pub passes : fits_outward l (environment_of l) (js_kinds adapter.args) adapter ≡ true
  pub names : pairs.names_fit e.args (length adapter.args) ≡ true
  pub fits : pairs.fits_kind e.kind e adapter ≡ true

-- an adapter with code that stands for no import passes values of the kinds that its parameters have
passing : (l : Lowered) (id : ℕ) (a : Adapter) (is_called_back : Bool) → adapter_at l id ≡ Some a → has_code a.kind ≡ true → has_number id (pairs.paired l) ≡ false
    → has_number id (pairs.called_back l) ≡ is_called_back → AreFit l → fits_outward l (environment_of l) (outward_kinds is_called_back a.args) a ≡ true
unfolding is_bad_code
passing l id a is_called_back there coded alone called f =
    by (has_code a.kind) (has_number id (pairs.paired l)) (fits_outward l (environment_of l) (outward_kinds is_called_back a.args) a) coded alone
    (subst (λ (b : Bool). (has_code a.kind && (not (has_number id (pairs.paired l)) && not (fits_outward l (environment_of l) (outward_kinds b a.args) a))) ≡ false) called
    (f.coded (id, a) (looked_up l.wit.adapters id a there)))
  where
    by : (c n f : Bool) → c ≡ true → n ≡ false → (c && (not n && not f)) ≡ false → f ≡ true
    by true false true a b h = refl
    by true false false a b h = cc
    by true true f a b h = cc
    by false n f a b h = cc

fit_export : (l : Lowered) (e : AuxExport) (o : Option Adapter) → adapter_at l e.adapter ≡ o → pairs.fits_described e o ≡ true
    → has_number e.adapter (pairs.paired l) ≡ false → has_number e.adapter (pairs.called_back l) ≡ false → AreFit l → IsFitExport l e
fit_export l e None q h u c f = absurd (true≢false (sym h))
fit_export l e (Some a) q h u c f =
    let p = and_parts (has_code a.kind) (pairs.names_fit e.args (length a.args) && pairs.fits_kind e.kind e a) h in
    let rest = and_parts (pairs.names_fit e.args (length a.args)) (pairs.fits_kind e.kind e a) p.1 in record {
      adapter = a;
      there = q;
      coded = p.0;
      passes = passing l e.adapter a false q p.0 u c f;
      names = rest.0;
      fits = rest.1;
    }

-- each export's adapter is fit for it
pub exports_fit : (s : Settings) (l : Lowered) → verdict s l ≡ None → (e : AuxExport) → IsIn e l.aux.exports → IsFitExport l e
unfolding fits_export is_bad_export
exports_fit s l h e i =
    let f = fit_adapters s l h in
    let r = after-none (is_bad_export l (pairs.paired l) (pairs.called_back l)) [] l.aux.exports e f.exported i in
    let told = map (λ (other : AuxExport). other.adapter) r.0 in
    let others = has_number e.adapter (pairs.paired l) || has_number e.adapter (pairs.called_back l) in
    let p = neither (has_number e.adapter told || others) (not (fits_export l e)) r.1 in
    let away = neither (has_number e.adapter (pairs.paired l)) (has_number e.adapter (pairs.called_back l)) (neither (has_number e.adapter told) others p.0).1 in
    fit_export l e (adapter_at l e.adapter) refl (not_false (fits_export l e) p.1) away.0 away.1 f

-- no two exports have one adapter
pub distinct_adapters : (s : Settings) (l : Lowered) → verdict s l ≡ None → AreDistinct (map (λ (e : AuxExport). e.adapter) l.aux.exports)
unfolding is_bad_export
distinct_adapters s l h =
    let told : (before : List AuxExport) (e : AuxExport) → is_bad_export l (pairs.paired l) (pairs.called_back l) before e ≡ false → has_number e.adapter (map (λ (e : AuxExport). e.adapter) before) ≡ false =
    λ before e k.
    let others = has_number e.adapter (pairs.paired l) || has_number e.adapter (pairs.called_back l) in
    let ids = has_number e.adapter (map (λ (e : AuxExport). e.adapter) before) in
    (neither ids others (neither (ids || others) (not (fits_export l e)) k).0).0 in
    (new_numbers (is_bad_export l (pairs.paired l) (pairs.called_back l)) (λ (e : AuxExport). e.adapter) told [] l.aux.exports (fit_adapters s l h).exported).distinct

-- ---- closures

-- an export with the adapter of a closure that it is called by: it is a function, and the adapter has code and passes the values of a closure to an
-- export of the module
pub record IsFitCallback (l : Lowered) (pair : ExportId × ℕ) : Type 0 where
  pub typed : is_some (export_type l.«module» pair.0.0) ≡ true
  pub adapter : Adapter
  pub there : adapter_at l pair.1 ≡ Some adapter
  pub coded : has_code adapter.kind ≡ true
  pub passes : fits_outward l (environment_of l) (closure_kinds adapter.args) adapter ≡ true

fit_callback : (l : Lowered) (pair : ExportId × ℕ) (o : Option Adapter) → adapter_at l pair.1 ≡ o → is_some (export_type l.«module» pair.0.0) ≡ true
    → adapters.is_local o ≡ true → has_number pair.1 (pairs.paired l) ≡ false → has_number pair.1 (pairs.called_back l) ≡ true → AreFit l → IsFitCallback l pair
fit_callback l pair None q t h u c f = absurd (true≢false (sym h))
fit_callback l pair (Some a) q t h u c f =
    record { typed = t; adapter = a; there = q; coded = h; passes = passing l pair.1 a true q h u c f }

-- each adapter of a closure is fit for it
pub callbacks_fit : (s : Settings) (l : Lowered) → verdict s l ≡ None → (pair : ExportId × ℕ) → IsIn pair l.wit.exports → IsFitCallback l pair
unfolding is_bad_callback
callbacks_fit s l h pair i =
    let f = fit_adapters s l h in
    let typed = is_some (export_type l.«module» pair.0.0) in
    let coded = adapters.is_local (adapter_at l pair.1) in
    let mine = has_number pair.1 (pairs.paired l) in
    let all = neither (not typed) (not coded || mine) (f.called pair i) in
    let rest = neither (not coded) mine all.1 in
    fit_callback l pair (adapter_at l pair.1) refl (not_false typed all.0) (not_false coded rest.0) rest.1 (number_of l.wit.exports i) f
  where
    same_number : (n : ℕ) → n ≡ pair.1 → (n == pair.1) ≡ true
    same_number n e = grind (arith, nat_tests)

    number_of : (ps : List (ExportId × ℕ)) → IsIn pair ps → has_number pair.1 (map (λ (p : ExportId × ℕ). p.1) ps) ≡ true
    number_of [] at = absurd at
    number_of (p ∷ ps) (inl same) =
        ap (λ (b : Bool). b || has_number pair.1 (map (λ (p : ExportId × ℕ). p.1) ps)) (same_number p.1 (ap (λ (q : ExportId × ℕ). q.1) (sym same)))
    number_of (p ∷ ps) (inr at) = or_last (p.1 == pair.1) (has_number pair.1 (map (λ (p : ExportId × ℕ). p.1) ps)) (number_of ps at)

-- ---- imports

-- an import with its adapter, which passes the values of the import's type to what is described
pub record IsFitPair (l : Lowered) (pair : ImportId × ℕ) : Type 0 where
  pub «import» : Import
  pub stands : entry_at l.«module».imports pair.0.0 ≡ Some «import»
  pub ty : FuncType
  pub typed : pairs.import_type l.«module» «import».kind ≡ Some ty
  pub adapter : Adapter
  pub there : adapter_at l pair.1 ≡ Some adapter
  pub passes : fits_inward l (environment_of l) (pairs.described l) adapter ty ≡ true

fit_pair : (l : Lowered) (pair : ImportId × ℕ) (i : Option Import) (t : Option FuncType) (a : Option Adapter)
    → entry_at l.«module».imports pair.0.0 ≡ i → option_and_then (λ (i : Import). pairs.import_type l.«module» i.kind) i ≡ t → adapter_at l pair.1 ≡ a
    → pairs.fits_type l (environment_of l) (pairs.described l) t a ≡ true → IsFitPair l pair
fit_pair l pair (Some i) (Some t) (Some a) p q r h = record { «import» = i; stands = p; ty = t; typed = q; adapter = a; there = r; passes = h }
fit_pair l pair (Some i) (Some t) None p q r h = absurd (true≢false (sym h))
fit_pair l pair (Some i) None a p q r h = absurd (true≢false (sym h))
fit_pair l pair None None a p q r h = absurd (true≢false (sym h))
fit_pair l pair None (Some t) a p q r h = cc

-- each pair's adapter is fit for its import
pub pairs_fit : (s : Settings) (l : Lowered) → verdict s l ≡ None → (pair : ImportId × ℕ) → IsIn pair l.wit.implements → IsFitPair l pair
unfolding fits_pair is_bad_pair
pairs_fit s l h pair i =
    let r = after-none (is_bad_pair l (environment_of l) (pairs.described l)) [] l.wit.implements pair (fit_adapters s l h).paired i in
    let twice = has_number pair.0.0 (map (λ (p : ImportId × ℕ). p.0.0) r.0) || has_number pair.1 (map (λ (p : ImportId × ℕ). p.1) r.0) in
    let fits = not_false (fits_pair l (environment_of l) (pairs.described l) pair) (neither twice (not (fits_pair l (environment_of l) (pairs.described l) pair)) r.1).1 in
    fit_pair l pair (entry_at l.«module».imports pair.0.0) (pairs.imported_type l.«module» pair.0.0) (adapter_at l pair.1) refl refl refl fits

-- no import stands in two pairs
pub distinct_places : (s : Settings) (l : Lowered) → verdict s l ≡ None → AreDistinct (implemented l.wit)
unfolding is_bad_pair
distinct_places s l h =
    let place : ImportId × ℕ → ℕ = λ pair. pair.0.0 in
    let told : (before : List (ImportId × ℕ)) (pair : ImportId × ℕ) → is_bad_pair l (environment_of l) (pairs.described l) before pair ≡ false → has_number pair.0.0 (map place before) ≡ false =
    λ before pair k.
    let places = has_number pair.0.0 (map place before) in
    let ids = has_number pair.1 (map (λ (p : ImportId × ℕ). p.1) before) in
    (neither places ids (neither (places || ids) (not (fits_pair l (environment_of l) (pairs.described l) pair)) k).0).0 in
    (new_numbers (is_bad_pair l (environment_of l) (pairs.described l)) place told [] l.wit.implements (fit_adapters s l h).paired).distinct

-- an adapter stands for each import that the glue file defines, unless the file defines it whatever is described
pub imports_bound : (s : Settings) (l : Lowered) → verdict s l ≡ None → (k : ℕ) → IsIn k (own_imports s l.«module» l.wit l.aux)
    → pairs.is_fixed_import l (entry_at l.«module».imports k) ≡ false → IsIn k (implemented l.wit)
unfolding answer is_unbound
imports_bound s l h k i fixed =
    let own = own_imports s l.«module» l.wit l.aux in
    let defined = implemented l.wit in
    let none = option_map-none _ (find (is_unbound l defined) own) (none_of conditions.UnboundImport s l (search rules) h) in
    number_in k defined (bound (has_number k defined) (pairs.is_fixed_import l (entry_at l.«module».imports k)) fixed (find-none (is_unbound l defined) own k none i))
  where
    bound : (d b : Bool) → b ≡ false → (not d && not b) ≡ false → d ≡ true
    bound true b e h = refl
    bound false true e h = absurd (true≢false e)
    bound false false e h = absurd (true≢false h)

-- ---- names

-- the names of the imports that the glue file defines
abbrev names_of : Settings → Lowered → List (List ℕ)
names_of s l = own_names s l.«module» l.wit l.aux

no_texts : (s : Settings) (l : Lowered) → verdict s l ≡ None → bad_text s.omit_imports (names_of s l) l ≡ None
unfolding answer
no_texts s l h = option_map-none faults.BadName (bad_text s.omit_imports (names_of s l) l) (none_of conditions.BadName s l (search rules) h)

chosen-none : (name : List ℕ) (o : Option (List ℕ)) (f : List ℕ → Option (List ℕ)) → o ≡ Some name → option_and_then f o ≡ None → f name ≡ None
chosen-none name None f e h = cc
chosen-none name (Some other) f e h = let same : name ≡ other = cc in ap f same ∙ h

neither_answer : {A : Type 0} (o later : Option A) → option_or o later ≡ None → (o ≡ None) × (later ≡ None)
neither_answer None later h = (refl, h)
neither_answer (Some x) later h = cc

-- the answers of which the first is the first bad name
abbrev pub bad_names : Settings → Lowered → List (Option (List ℕ))
bad_names s l =
    first_of (naming.bad_closure l.«module») l.wit.exports
    ∷ bad_export_name l.aux.exports
    ∷ first_of (naming.bad_import s.omit_imports) l.aux.imports
    ∷ bad_declared_name l.aux
    ∷ first_of naming.bad_values l.aux.string_enums
    ∷ first_of (naming.bad_reexported s.omit_imports) l.aux.reexports
    ∷ find is_proto_name (names_of s l)
    ∷ []

pub no_bad : (s : Settings) (l : Lowered) → verdict s l ≡ None → (one : Option (List ℕ)) → IsIn one (bad_names s l) → one ≡ None
unfolding bad_text
no_bad s l h one i = some-none (bad_names s l) one (no_texts s l h) i

-- what a described name brings of the outside is an identifier
pub described_ident : (s : Settings) (l : Lowered) → verdict s l ≡ None → (name : JsImportName) → IsIn name (described_names l.aux) → (x : List ℕ)
    → IsIn x (described_hosts s.omit_imports name) → is_ident x ≡ true
described_ident s l h name i x k =
    let bad = naming.bad_described s.omit_imports in
    let begins = λ (e : ℕ × AuxImport). names.names_of (js_import e.1) in
    let imports = no_bad s l h (first_of (naming.bad_import s.omit_imports) l.aux.imports) (inr (inr (inl refl))) in
    let reexports = no_bad s l h (first_of (naming.bad_reexported s.omit_imports) l.aux.reexports) (inr (inr (inr (inr (inr (inl refl)))))) in
    let none : bad name ≡ None = elim (in_either name (flat_map begins l.aux.imports) (map (λ r. r.1.name) l.aux.reexports) i) [
      | inl here ↦
          let r = from_flat begins l.aux.imports name here in
          first_of-none bad (begins r.0) name (first_of-none (naming.bad_import s.omit_imports) l.aux.imports r.0 imports r.1) r.2
      | inr there ↦
          let r = from_map (λ (r : List ℕ × JsImport × Bool). r.1.name) name l.aux.reexports there in
          let entry = first_of-none (naming.bad_reexported s.omit_imports) l.aux.reexports r.0 reexports r.1 in
          ap bad r.2 ∙ (neither_answer (where_true (is_proto_name (r.0).0) (r.0).0) (bad (r.0).1.name) entry).1
    ] in
    not_false (is_ident x) (find-none (λ (n : List ℕ). not (is_ident n)) (described_hosts s.omit_imports name) x none k)

-- a name that an import begins with is described
begun_described : (l : Lowered) (e : ℕ × AuxImport) → IsIn e l.aux.imports → (name : JsImportName) → IsIn name (names.names_of (js_import e.1))
    → IsIn name (described_names l.aux)
begun_described l e i name k =
    let begins = λ (e : ℕ × AuxImport). names.names_of (js_import e.1) in
    in_left name (flat_map begins l.aux.imports) (map (λ r. r.1.name) l.aux.reexports) (in_flat begins l.aux.imports e name i k)

-- so is what an import brings
pub brought_ident : (s : Settings) (l : Lowered) → verdict s l ≡ None → (e : ℕ × AuxImport) → IsIn e l.aux.imports → (name : List ℕ)
    → IsIn name (brought s.omit_imports e.1) → is_ident name ≡ true
brought_ident s l h e i name k =
    let r = from_flat (described_hosts s.omit_imports) (names.names_of (js_import e.1)) name k in
    described_ident s l h r.0 (begun_described l e i r.0 r.1) name r.2

-- each variant of an enum is an identifier
pub variants_ident : (s : Settings) (l : Lowered) → verdict s l ≡ None → (e : AuxEnum) → IsIn e l.aux.enums
    → (v : List ℕ × ℤ × List ℕ) → IsIn v e.variants → is_ident v.0 ≡ true
variants_ident s l h e i v k =
    let declared = no_bad s l h (bad_declared_name l.aux) (inr (inr (inr (inl refl)))) in
    let enums = (neither_answer (first_of bad_class l.aux.structs) (first_of bad_enum l.aux.enums) declared).1 in
    let variant = find (λ (v : List ℕ × ℤ × List ℕ). is_bad_variant v.0) e.variants in
    let one = option_map (λ (v : List ℕ × ℤ × List ℕ). v.0) variant in
    let bad = (neither_answer (bad_path e.namespace e.name) one (first_of-none bad_enum l.aux.enums e enums i)).1 in
    let good = find-none (λ (v : List ℕ × ℤ × List ℕ). is_bad_variant v.0) e.variants v (option_map-none (λ (v : List ℕ × ℤ × List ℕ). v.0) variant bad) k in
    not_false (is_ident v.0) (neither (is_proto_name v.0) (not (is_ident v.0)) good).1

-- no import that the glue file defines is called `__proto__`
pub import_named : (s : Settings) (l : Lowered) → verdict s l ≡ None → (name : List ℕ) → IsIn name (names_of s l) → is_proto_name name ≡ false
import_named s l h name i =
    let none = no_bad s l h (find is_proto_name (names_of s l)) (inr (inr (inr (inr (inr (inr (inl refl))))))) in
    find-none is_proto_name (names_of s l) name none i

-- of what a described name brings where imports are kept none is one that the glue file binds
kept_apart : (s : Settings) (l : Lowered) → verdict s l ≡ None → (name : JsImportName) → IsIn name (described_names l.aux) → (x : List ℕ)
    → IsIn x (described_hosts false name) → IsAway x (fixed_names s l.«module»)
unfolding answer
kept_apart s l h name i x k =
    let taken = fixed_names s l.«module» in
    let given = given_names s.omit_imports l in
    let twice = naming.taken_described taken given in
    let none = option_map-none faults.GlobalTwice (first_of twice (described_names l.aux)) (none_of conditions.GlobalTwice s l (search rules) h) in
    let both = neither_answer (find (is_one_of taken) (described_hosts false name)) (name_if (is_one_of given) (global_of name)) (first_of-none twice (described_names l.aux) name none i) in
    away x taken (find-none (is_one_of taken) (described_hosts false name) x both.0 k)

-- no name stands for two things
pub no_clashes : (s : Settings) (l : Lowered) → verdict s l ≡ None → (naming.given_clash s l ≡ None) × (written_clash s l ≡ None)
unfolding answer name_clash
no_clashes s l h = neither_answer (naming.given_clash s l) (written_clash s l) (none_of conditions.NameClash s l (search rules) h)

-- of the module that is written
no_written : (s : Settings) (l : Lowered) → verdict s l ≡ None → (one : Option Fault)
    → IsIn one (naming.import_clash (names_of s l) ∷ naming.wasm_clash l.«module».exports ∷ naming.shim_clash s l ∷ naming.start_clash l.«module» ∷ []) → one ≡ None
unfolding written_clash
no_written s l h one i =
    some-none (naming.import_clash (names_of s l) ∷ naming.wasm_clash l.«module».exports ∷ naming.shim_clash s l ∷ naming.start_clash l.«module» ∷ []) one (no_clashes s l h).1 i

-- and no given name is one that the glue file binds
pub given_apart : (s : Settings) (l : Lowered) → verdict s l ≡ None → (name : List ℕ) → IsIn name (given_names s.omit_imports l)
    → IsAway name (fixed_names s l.«module»)
given_apart s l h name i =
    let names = given_names s.omit_imports l in
    let none = option_map-none faults.NameClash (first_clash_after bytes_eq (other_names s l) names) (no_clashes s l h).0 in
    away name (fixed_names s l.«module») (none_other s l names name none i).1

-- so none that a described name brings is one that the glue file binds
pub described_apart : (s : Settings) (l : Lowered) → verdict s l ≡ None → (name : JsImportName) → IsIn name (described_names l.aux) → (x : List ℕ)
    → IsIn x (described_hosts s.omit_imports name) → IsAway x (fixed_names s l.«module»)
described_apart s l h name i x k = elim (either_host s.omit_imports name x k) [
  | inl here ↦ kept_apart s l h name i x here
  | inr named ↦ given_apart s l h x (omitted_given s.omit_imports l name i x named)
]

-- nor one that an import brings
pub brought_apart : (s : Settings) (l : Lowered) → verdict s l ≡ None → (e : ℕ × AuxImport) → IsIn e l.aux.imports → (name : List ℕ)
    → IsIn name (brought s.omit_imports e.1) → IsAway name (fixed_names s l.«module»)
brought_apart s l h e i name k =
    let r = from_flat (described_hosts s.omit_imports) (names.names_of (js_import e.1)) name k in
    described_apart s l h r.0 (begun_described l e i r.0 r.1) name r.2

-- ---- things of one name

-- an export of one of these names
named_in : (name : List ℕ) (exports : List (Option Export)) → IsIn name (filter_map export_name exports)
    → (e : Export) × IsIn (Some e) exports × (name ≡ e.name)
named_in name [] i = absurd i
named_in name (None ∷ exports) i = let r = named_in name exports i in (r.0, inr r.1, r.2)
named_in name (Some e ∷ exports) i =
    elim i [ inl is ↦ (e, inl refl, is) | inr later ↦ let r = named_in name exports later in (r.0, inr r.1, r.2) ]

distinct_names : (exports : List (Option Export)) → AreCompatible naming.same_export exports → AreDistinct (filter_map export_name exports)
distinct_names [] h = tt
distinct_names (None ∷ exports) h = distinct_names exports h.1
distinct_names (Some e ∷ exports) h =
    (λ i. let r = named_in e.name exports i in false≢true (sym (h.0 (Some r.0) r.1) ∙ (bytes_eq-Decides e.name (r.0).name).1 r.2), distinct_names exports h.1)

-- no two exports of the module have one name
pub distinct_exports : (s : Settings) (l : Lowered) → verdict s l ≡ None → AreDistinct (export_names l.«module»)
distinct_exports s l h =
    let none = no_written s l h (naming.wasm_clash l.«module».exports) (inr (inl refl)) in
    distinct_names l.«module».exports (compatible naming.same_export l.«module».exports (option_map-none (λ e. faults.NameClash (naming.name_of e)) (first_clash naming.same_export l.«module».exports) none))

distinct_texts : (names : List (List ℕ)) → AreCompatible bytes_eq names → AreDistinct names
distinct_texts [] h = tt
distinct_texts (name ∷ names) h = (λ i. false≢true (sym (h.0 name i) ∙ (bytes_eq-Decides name name).1 refl), distinct_texts names h.1)

-- no two imports that the glue file defines have one name
pub distinct_own : (s : Settings) (l : Lowered) → verdict s l ≡ None → AreDistinct (names_of s l)
distinct_own s l h =
    let none = no_written s l h (naming.import_clash (names_of s l)) (inl refl) in
    distinct_texts (names_of s l) (compatible bytes_eq (names_of s l) (option_map-none faults.NameClash (first_clash bytes_eq (names_of s l)) none))

-- ---- modules

no_clash : (s : Settings) (l : Lowered) → verdict s l ≡ None → (first_of modules.reserved_in (described_names l.aux) ≡ None) × (foreign_module s l ≡ None)
unfolding answer clashing_module
no_clash s l h =
    let answers = first_of modules.reserved_in (described_names l.aux) ∷ foreign_module s l ∷ [] in
    let none = option_map-none faults.ModuleClash (clashing_module s l) (none_of conditions.ModuleClash s l (search rules) h) in
    (some-none answers (first_of modules.reserved_in (described_names l.aux)) none (inl refl), some-none answers (foreign_module s l) none (inr (inl refl)))

-- nothing is described to come from the module of placeholders or from that of string constants
pub described_elsewhere : (s : Settings) (l : Lowered) → verdict s l ≡ None → (described : JsImportName) → IsIn described (described_names l.aux)
    → (from : List ℕ) → modules.module_of described ≡ Some from → modules.is_reserved from ≡ false
described_elsewhere s l h described i from m =
    let none = first_of-none modules.reserved_in (described_names l.aux) described (no_clash s l h).0 i in
    where_true-none (modules.is_reserved from) from (chosen-none from (modules.module_of described) (λ name. where_true (modules.is_reserved name) name) m none)

-- where no place has an answer, the place of an import has none
none_placed : (f : ℕ → Option Import → Option (List ℕ)) (from k : ℕ) (is : List (Option Import)) (i : Import)
    → modules.first_placed f from is ≡ None → entry_at is k ≡ Some i → f (from + k) (Some i) ≡ None
none_placed f from k [] i h e = cc
none_placed f from zero (x ∷ is) i h e =
    let same : x ≡ Some i = e in
    let here : from + 0 ≡ from = omega arith in
    ap (λ n. f n (Some i)) here ∙ ap (f from) (sym same) ∙ (neither_answer (f from x) (modules.first_placed f (from + 1) is) h).0
none_placed f from (suc k) (x ∷ is) i h e =
    let later : from + 1 + k ≡ from + suc k = omega arith in
    ap (λ n. f n (Some i)) (sym later) ∙ none_placed f (from + 1) k is i (neither_answer (f from x) (modules.first_placed f (from + 1) is) h).1 e

-- An import that the glue file doesn't define comes, in the module that is written, neither from the glue file's own module nor from
-- one whose name no object can have as a key.
pub foreign_apart : (s : Settings) (l : Lowered) → verdict s l ≡ None → (k : ℕ) (i : Import) → entry_at l.«module».imports k ≡ Some i
    → has_number k (own_imports s l.«module» l.wit l.aux) ≡ false → (claim : Claimed) → IsIn claim (modules.claims s l)
    → modules.is_from (implemented l.wit) k i claim ≡ false
unfolding foreign_module
foreign_apart s l h k i e foreign claim c =
    let own = own_imports s l.«module» l.wit l.aux in
    let paired = implemented l.wit in
    let none = none_placed (modules.placed_clash own paired (modules.claims s l)) 0 k l.«module».imports i (no_clash s l h).1 e in
    let here : 0 + k ≡ k = omega arith in
    let clash = ap (λ n. modules.placed_clash own paired (modules.claims s l) n (Some i)) (sym here) ∙ none in
    let found = option_map (λ (claim : Claimed). claim.name) (find (modules.is_from paired k i) (modules.claims s l)) in
    let unfound : found ≡ None = ap (λ b. cond b None found) (sym foreign) ∙ clash in
    find-none (modules.is_from paired k i) (modules.claims s l) claim (option_map-none (λ (claim : Claimed). claim.name) (find (modules.is_from paired k i) (modules.claims s l)) unfound) c

-- ---- what is published

-- no two published things clash
pub things_apart : (s : Settings) (l : Lowered) → verdict s l ≡ None → thing_clash s l.aux ≡ None
unfolding answer
things_apart s l h = none_of conditions.ExportClash s l (search rules) h

-- nothing is published under a name that the glue file publishes itself
pub things_unfixed : (s : Settings) (l : Lowered) → verdict s l ≡ None → fixed_thing s (names_of s l) l.aux ≡ None
unfolding answer
things_unfixed s l h = none_of conditions.FixedExport s l (search rules) h

-- each re-export can be one
pub reexports_fit : (s : Settings) (l : Lowered) → verdict s l ≡ None → bad_reexport s l.aux ≡ None
unfolding answer
reexports_fit s l h = none_of conditions.BadReexport s l (search rules) h
