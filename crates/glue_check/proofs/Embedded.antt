-- Where there is no fault and all is built, each described import has an expression, and the item of the module that it gives stands.
use Rattle.std.proofs.Common.{◌≡◌, ℕ, List, Bool, true, false, cond, Option, None, Some, refl, ap, sym, ◌∙◌, rules, true≢false}
use Rattle.std.specs.Prelude.{◌||◌, codes, is_some}
use Rattle.std.proofs.lemmas.Bool.{and_parts}
use Rattle.std.specs.List.{list_any}
use Rattle.std.specs.Option.{option_or}
use Rattle.values.specs.Lists.{IsIn}
use Rattle.glue_shared.specs.declared.adapter.Adapter.{Adapter}
use Rattle.glue_shared.specs.declared.import.AuxImport.{AuxImport}
use Rattle.glue_shared.specs.declared.import.AuxImport.TheVariants as what
use Rattle.glue_shared.specs.declared.import.Intrinsic.{Intrinsic}
use Rattle.glue_shared.specs.declared.import.Intrinsic.TheVariants as i
use Rattle.glue_shared.specs.declared.description.Lowered.{Lowered}
use Rattle.glue_shared.specs.declared.settings.Settings.{Settings}
use Rattle.glue_faults.specs.declared.fault.Fault.TheVariants as faults
use Rattle.glue_faults.specs.First.{first_of}
use Rattle.glue_faults.proofs.First.{first_of-none, list_any-none, option_map-none, where_true-none}
use Rattle.glue_adapters.specs.Adapters.{code_of}
use Rattle.glue_imports.specs.Expressions.{has_expression}
use Rattle.glue_imports.specs.Given.{given_item, gives_item, is_giving}
use Rattle.glue_check.specs.declared.verdict.Condition.TheVariants as conditions
use Rattle.glue_check.specs.Answers.{answer}
use Rattle.glue_check.specs.Links.{unembedded}
use Rattle.glue_check.specs.Missing.{adapter_lacks, catch_lacks, code_lacks, entry_lacks, first_missing, excludes, has_sole_memory, is_excluded, lacked_part, lacked_unless, lacking, memory_there}
use Rattle.glue_check.specs.TargetValues.{is_absent}
use Rattle.glue_check.specs.Unbuilt.{is_told}
use Rattle.glue_check.specs.Verdict.{verdict}
use Rattle.glue_check.proofs.BuiltForm.{AreBuiltImports, first_true}
use Rattle.glue_check.proofs.Conditions.{none_of}

-- no link is without content that linked modules aren't split off for
embedded : (s : Settings) (l : Lowered) → verdict s l ≡ None → (e : ℕ × AuxImport) → IsIn e l.aux.imports
    → is_some (unembedded s.split_linked_modules e) ≡ false
unfolding answer
embedded s l h e i =
    let none = option_map-none faults.LinkNotEmbedded (first_of (unembedded s.split_linked_modules) l.aux.imports)
    (none_of conditions.LinkNotEmbedded s l (search rules) h) in
    ap is_some (first_of-none (unembedded s.split_linked_modules) l.aux.imports e none i)

-- no intrinsic is one that the target has no value for
present : (s : Settings) (l : Lowered) → verdict s l ≡ None → (e : ℕ × AuxImport) → IsIn e l.aux.imports
    → is_absent s.target e ≡ false
unfolding answer
present s l h e i =
    let none = where_true-none (list_any (is_absent s.target) l.aux.imports) faults.IntrinsicTarget
    (none_of conditions.IntrinsicTarget s l (search rules) h) in
    list_any-none (is_absent s.target) l.aux.imports e none i

-- of two answers where the first that is one is none
pub or_none : {A : Type 0} (a b : Option A) → option_or a b ≡ None → (a ≡ None) × (b ≡ None)
or_none None b h = (refl, h)
or_none (Some x) b h = cc

-- no adapter lacks a part, no import, and not what is caught
none_missing : (s : Settings) (l : Lowered) → verdict s l ≡ None
    → (first_of (adapter_lacks s l) l.wit.adapters ≡ None) × ((first_of (entry_lacks s l) l.aux.imports ≡ None) × (catch_lacks s l ≡ None))
unfolding answer
none_missing s l h =
    let adapters = first_of (adapter_lacks s l) l.wit.adapters in
    let imports = first_of (entry_lacks s l) l.aux.imports in
    let all = or_none adapters (option_or imports (catch_lacks s l))
    (option_map-none faults.MissingPart (first_missing s l) (none_of conditions.MissingPart s l (search rules) h)) in
    (all.0, or_none imports (catch_lacks s l) all.1)

-- the code of no adapter lacks one
pub code_complete : (s : Settings) (l : Lowered) → verdict s l ≡ None → (e : ℕ × Adapter) → IsIn e l.wit.adapters → code_lacks s l (code_of e.1.kind) ≡ None
code_complete s l h e i = first_of-none (adapter_lacks s l) l.wit.adapters e (none_missing s l h).0 i

-- none of the imports lacks a part
complete : (s : Settings) (l : Lowered) → verdict s l ≡ None → (e : ℕ × AuxImport) → IsIn e l.aux.imports → lacking s l e.1 ≡ None
complete s l h e i = first_of-none (entry_lacks s l) l.aux.imports e (none_missing s l h).1.0 i

-- nor does what is caught
pub catch_complete : (s : Settings) (l : Lowered) → verdict s l ≡ None → catch_lacks s l ≡ None
catch_complete s l h = (none_missing s l h).1.1

-- a part that isn't lacked is there
pub there_if : (there : Bool) (part : List ℕ) → lacked_unless there part ≡ None → there ≡ true
there_if true part h = refl
there_if false part h = cc

-- so none goes by another way of keeping references
unexcluded : (s : Settings) (l : Lowered) (w : AuxImport) → lacking s l w ≡ None → excludes s.externref w ≡ false
unexcluded s l (what.Intrinsic name) h = by (is_excluded s.externref name) h
  where
    by : (b : Bool) → cond b (Some (codes "externref")) (lacked_part l name) ≡ None → b ≡ false
    by true h = cc
    by false h = refl
unexcluded s l other h = refl

-- nor does it lack a part then
unlacked : (excluded : Bool) (part : Option (List ℕ)) → cond excluded (Some (codes "externref")) part ≡ None → part ≡ None
unlacked true part h = cc
unlacked false part h = h

-- and the item that it gives stands
given_by : (s : Settings) (l : Lowered) (w : AuxImport) → lacking s l w ≡ None → gives_item w ≡ true → is_some (given_item l w) ≡ true
given_by s l (what.Intrinsic name) h g = by name (unlacked (is_excluded s.externref name) (lacked_part l name) h) g
  where
    by : (name : Intrinsic) → lacked_part l name ≡ None → is_giving name ≡ true → is_some (given_item l (what.Intrinsic name)) ≡ true
    by i.Memory h g =
        (and_parts (has_sole_memory l.«module».memories) (is_some (given_item l (what.Intrinsic i.Memory))) (there_if (memory_there l) (codes "memory") h)).1
    by i.FunctionTable h g = there_if (is_some (given_item l (what.Intrinsic i.FunctionTable))) (codes "function_table") h
    by i.InitExternrefTable h g = there_if (is_some (given_item l (what.Intrinsic i.InitExternrefTable))) (codes "externref_table") h
    by other h g = absurd (true≢false (sym g))
given_by s l other h g = absurd (true≢false (sym g))

pub given_there : (s : Settings) (l : Lowered) → verdict s l ≡ None → (e : ℕ × AuxImport) → IsIn e l.aux.imports → gives_item e.1 ≡ true
    → is_some (given_item l e.1) ≡ true
given_there s l h e i g = given_by s l e.1 (complete s l h e i) g

-- so no condition tells of an import
untold : (s : Settings) (l : Lowered) → verdict s l ≡ None → (e : ℕ × AuxImport) → IsIn e l.aux.imports → is_told s e ≡ false
untold s l h e i = rw (embedded s l h e i, present s l h e i, unexcluded s l e.1 (complete s l h e i)) refl

-- so each described import has an expression
pub expression_there : (s : Settings) (l : Lowered) → AreBuiltImports s l → verdict s l ≡ None → (e : ℕ × AuxImport) → IsIn e l.aux.imports
    → has_expression s e.1 ≡ true
expression_there s l built h e i =
    first_true (has_expression s e.1) (is_told s e) (built.expressions e i) (untold s l h e i)
