-- What is known of a description whose items are made, however it was checked, and that the check gives it.
use Rattle.glue_context.proofs.Common.{◌≡◌, ℕ, List, [], true, false, None, Some, Option, arith, list_all, is_bindable, is_definable, IsIn, IsAway, AreDistinct, ImportId, AuxExport, Settings, NameMap, Deno, Lowered, described_hosts, frame_of, rewritten, fixed_names, own_imports, callback_name, used_closures, is_declarable, IsBuiltExport, HasSteps, FileFlags, unbuilt, verdict}
use Rattle.glue_check.proofs.{BuiltForm.target_built, BuiltForm.settings_built, BuiltForm.exports_built, BuiltForm.structs_built}
use Rattle.glue_check.proofs.Complete.{CanHand, handing_there}
use Rattle.glue_check.proofs.ListNames.{AreListNames, lists_named}
use Rattle.glue_check.proofs.{OwnPairs.IsDefinableBy, OwnPairs.IsDefinedImport, OwnPairs.kept_pair, OwnPairs.number_there, OwnPairs.own_defined, OwnPairs.own_distinct, Passed.described_apart, Passed.described_ident, Passed.reexports_fit, Passed.things_apart, Passed.variants_ident, Steps.closure_named, Steps.closure_steps, Steps.export_steps, Steps.pair_steps}
use Rattle.std.specs.Prelude.{ℤ}
use Rattle.glue_exports.proofs.EnumFacts.{variant_names}
use Rattle.glue_exports.proofs.Joined.{from_map}
use Rattle.glue_naming.specs.Pairs.{is_among, own_pairs}
use Rattle.glue_published.specs.Clash.{thing_clash}
use Rattle.glue_published.specs.Reexports.{bad_reexport}
use Rattle.glue_shared.specs.declared.aux.AuxEnum.{AuxEnum}
use Rattle.glue_shared.specs.declared.import.JsImportName.{JsImportName}
use Rattle.glue_shared.specs.Names.{adapter_for, described_names, has_number}
use Rattle.printed_adapters.specs.Caught.{catches}
use Rattle.glue_words.specs.Ident.{is_ident}
use Rattle.glue_words.specs.Limits.{is_prop}
use Rattle.glue_words.proofs.Idents.{ident_prop}
use Rattle.glue_context.specs.DefinedItems.{is_definable_by}
use Rattle.glue_context.specs.FrameIn.{frame_in}
use Rattle.glue_context.proofs.ClosureNames.{AreCallbackNames, callbacks_named}
use Rattle.glue_context.proofs.FrameRead.{frame_read}
use Rattle.glue_context.proofs.Lists.{all_by}

pub record Facts (s : Settings) (l : Lowered) : Type 0 where
  pub deno : s.target ≡ Deno
  pub no_reset : s.reset_state ≡ false
  pub plain_files : (s.debug ≡ false) × (s.export_wasm ≡ false)
  -- no two things that are published clash, what is re-exported can be, and the variants of enums may stand for properties
  pub things : thing_clash s l.aux ≡ None
  pub reexported : bad_reexport s l.aux ≡ None
  pub variants : (e : AuxEnum) → IsIn e l.aux.enums → list_all is_prop (variant_names e.variants) ≡ true
  -- own imports are distinct, and an adapter stands for each, or it brings in a memory whose definition is built
  pub once : AreDistinct (own_imports s l.«module» l.wit l.aux)
  pub defined : (place : ℕ) → IsIn place (own_imports s l.«module» l.wit l.aux) → IsDefinedImport l place
  -- no class is published, and what described names bring of the outside are identifiers that the file doesn't bind itself
  pub structs : l.aux.structs ≡ []
  pub idents : (name : JsImportName) → IsIn name (described_names l.aux) → (x : List ℕ) → IsIn x (described_hosts s.omit_imports name) → is_ident x ≡ true
  pub apart : (name : JsImportName) → IsIn name (described_names l.aux) → (x : List ℕ) → IsIn x (described_hosts s.omit_imports name)
      → IsAway x (fixed_names s l.«module»)
  -- the names of lists of string enums are identifiers that stand for nothing else
  pub lists : AreListNames s l
  -- so are those of the functions of closures
  pub callbacks : AreCallbackNames s l
  -- each export is a function, and its adapter, that of each own import and that of each closure that is made has steps
  pub exports : (e : AuxExport) → IsIn e l.aux.exports → IsBuiltExport e
  pub export_steps : (e : AuxExport) → IsIn e l.aux.exports → HasSteps s l e.adapter
  pub pair_steps : (pair : ImportId × ℕ) → IsIn pair l.wit.implements → has_number pair.0.0 (own_imports s l.«module» l.wit l.aux) ≡ true → HasSteps s l pair.1
  pub closure_steps : (id : ℕ) → IsIn id (used_closures s l) → HasSteps s l id
  -- what imports throw can be handed to the module, where it is caught
  pub hands : catches s l ≡ true → CanHand s l
  -- what the frame goes by can be read off the written module
  pub framed : frame_of s l ≡ frame_in s.stem (rewritten s l)

-- a pair of an own import is described, and its import is an own one
pub own_pair : (s : Settings) (l : Lowered) (pair : ImportId × ℕ) → IsIn pair (own_pairs s l)
    → IsIn pair l.wit.implements × (has_number pair.0.0 (own_imports s l.«module» l.wit l.aux) ≡ true)
own_pair s l pair k = kept_pair (is_among (own_imports s l.«module» l.wit l.aux)) l.wit.implements pair k

-- the names of variants may stand for properties
variants_named : (s : Settings) (l : Lowered) → verdict s l ≡ None → (e : AuxEnum) → IsIn e l.aux.enums
    → list_all is_prop (variant_names e.variants) ≡ true
variants_named s l passed e i =
    all_by is_prop (variant_names e.variants) (λ name k.
    let v = from_map (λ (v : List ℕ × ℤ × List ℕ). v.0) name e.variants k in
    rw v.2 (ident_prop v.0.0 (variants_ident s l passed e i v.0 v.1)))

pub built : (f : FileFlags) (s : Settings) (l : Lowered) → unbuilt f s l ≡ None → verdict s l ≡ None → Facts s l
built f s l whole passed =
    let asked = settings_built f s l whole in record {
      deno = target_built f s l whole;
      no_reset = asked.no_reset;
      plain_files = (asked.no_tests, asked.no_module);
      things = things_apart s l passed;
      reexported = reexports_fit s l passed;
      variants = variants_named s l passed;
      once = own_distinct f s l whole;
      defined = own_defined f s l whole passed;
      structs = structs_built f s l whole;
      idents = described_ident s l passed;
      apart = described_apart s l passed;
      lists = lists_named s l passed;
      callbacks = callbacks_named s l passed;
      exports = exports_built f s l whole;
      export_steps = export_steps f s l whole passed;
      pair_steps = pair_steps f s l whole passed;
      closure_steps = closure_steps f s l whole passed;
      hands = handing_there s l passed;
      framed = frame_read f s l whole passed;
    }

module _ (f : FileFlags) (s : Settings) (l : Lowered) (whole : unbuilt f s l ≡ None) (passed : verdict s l ≡ None) where
  -- each adapter that becomes a function has steps
  pub bindable_built : (m : NameMap) → list_all (is_bindable s m l) l.aux.exports ≡ true
  bindable_built m = all_by (is_bindable s m l) l.aux.exports (λ e k. let h = export_steps f s l whole passed e k m in grind arith)

  -- so has that of each closure that is made, and its function has a name
  pub declarable_built : (m : NameMap) → list_all (is_declarable s m l) (used_closures s l) ≡ true
  declarable_built m = all_by (is_declarable s m l) (used_closures s l) (λ id k.
      let h = closure_steps f s l whole passed id k m in
      let n = closure_named f s l whole passed id k in rw n.1 (grind arith))

  -- no two things that are published clash
  pub apart_built : thing_clash s l.aux ≡ None
  apart_built = things_apart s l passed

  -- and each own import stands, and can be defined
  pub definable_built : (m : NameMap) → list_all (is_definable s m l) (own_imports s l.«module» l.wit l.aux) ≡ true
  definable_built m = all_by (is_definable s m l) (own_imports s l.«module» l.wit l.aux) (λ place at.
      let known = own_defined f s l whole passed place at in rw known.stands (by place at known (adapter_for l.wit.implements place) known.kind))
    where
      by : (place : ℕ) → IsIn place (own_imports s l.«module» l.wit l.aux) → (known : IsDefinedImport l place) → (o : Option ℕ)
          → IsDefinableBy l place known.«import» o → is_definable_by s m l known.«import» o ≡ true
      by place at known (Some adapter) pair =
          let steps = pair_steps f s l whole passed (record { 0 = place }, adapter) pair (number_there place (own_imports s l.«module» l.wit l.aux) at) m in
          grind arith
      by place at known None plain = plain
