-- What the check answers is a fault of a description.
use Rattle.std.proofs.Common.{◌≡◌, List, [], ◌∷◌, Bool, true, false, Option, Some, None, refl, subst}
use Rattle.std.specs.Prelude.{option_map}
use Rattle.std.specs.Option.{option_or}
use Rattle.glue_shared.specs.declared.description.Lowered.{Lowered}
use Rattle.glue_shared.specs.declared.settings.Settings.{Settings}
use Rattle.glue_shared.specs.Names.{own_names}
use Rattle.glue_faults.specs.declared.fault.Fault.{Fault}
use Rattle.glue_faults.specs.First.{first_of, first_some, where_true}
use Rattle.glue_check.specs.declared.files.FileFlags.{FileFlags}
use Rattle.glue_check.specs.FaultKinds.{is_of_check}
use Rattle.glue_adapters.specs.Adapters.{unsupported, unsupported_in}
use Rattle.glue_adapters.specs.Pairs.{bad_adapter, unbound_import}
use Rattle.glue_published.specs.Clash.{thing_clash}
use Rattle.glue_published.specs.Fixed.{fixed_thing}
use Rattle.glue_published.specs.Reexports.{bad_reexport}
use Rattle.glue_check.specs.Classes.{unknown_class}
use Rattle.glue_check.specs.Links.{link_not_embedded}
use Rattle.glue_check.specs.Missing.{missing_part}
use Rattle.claimed_modules.specs.Modules.{module_clash}
use Rattle.glue_names.specs.Naming.{bad_name, global_twice, import_clash, given_clash, wasm_clash, shim_clash, start_clash, name_clash, written_clash}
use Rattle.glue_check.specs.TargetValues.{intrinsic_target}
use Rattle.glue_check.specs.Unbuilt.{unbuilt_target, unbuilt_imports, unbuilt_classes, unbuilt_settings, unbuilt_lifecycle, unbuilt_files}
use Rattle.glue_check.specs.Verdict.{threads, package_json, unbuilt, verdict}

-- no answer, or a fault of a description
abbrev IsOfCheck : Option Fault → Type 0
IsOfCheck None = Unit {0}
IsOfCheck (Some f) = is_of_check f ≡ true

abbrev AreOfCheck : List (Option Fault) → Type 0
AreOfCheck [] = Unit {0}
AreOfCheck (answer ∷ answers) = IsOfCheck answer × AreOfCheck answers

where_true-kind : (test : Bool) (f : Fault) → is_of_check f ≡ true → IsOfCheck (where_true test f)
where_true-kind true f h = h
where_true-kind false f h = tt

option_map-kind : {A : Type 0} (f : A → Fault) (o : Option A) → ((x : A) → is_of_check (f x) ≡ true) → IsOfCheck (option_map f o)
option_map-kind f None h = tt
option_map-kind f (Some x) h = h x

or_kind : (o later : Option Fault) → IsOfCheck o → IsOfCheck later → IsOfCheck (option_or o later)
or_kind None later h k = k
or_kind (Some f) later h k = h

first_of-kind : {A : Type 0} (f : A → Option Fault) (xs : List A) → ((x : A) → IsOfCheck (f x)) → IsOfCheck (first_of f xs)
first_of-kind f [] h = tt
first_of-kind f (x ∷ xs) h = or_kind (f x) (first_of f xs) (h x) (first_of-kind f xs h)

first_some-kind : (answers : List (Option Fault)) → AreOfCheck answers → IsOfCheck (first_some answers)
first_some-kind [] h = tt
first_some-kind (answer ∷ answers) h = or_kind answer (first_some answers) h.0 (first_some-kind answers h.1)

infixr 5 ◌▸◌
◌▸◌ : {P Q : Type 0} → P → Q → P × Q
first ▸ rest = (first, rest)

unbuilt_kind : (files : FileFlags) (s : Settings) (l : Lowered) → IsOfCheck (unbuilt files s l)
unfolding unbuilt
unbuilt_kind files s l = first_some-kind
    (unbuilt_target s ∷ unbuilt_imports s l ∷ unbuilt_classes l ∷ unbuilt_settings s ∷ unbuilt_lifecycle l ∷ unbuilt_files files l ∷ [])
    (where_true-kind _ _ refl ▸ where_true-kind _ _ refl ▸ where_true-kind _ _ refl ▸ where_true-kind _ _ refl
    ▸ where_true-kind _ _ refl ▸ where_true-kind _ _ refl ▸ tt)

written_kind : (s : Settings) (l : Lowered) → IsOfCheck (written_clash s l)
unfolding written_clash
written_kind s l = first_some-kind (import_clash (own_names s l.«module» l.wit l.aux) ∷ wasm_clash l.«module».exports ∷ shim_clash s l ∷ start_clash l.«module» ∷ [])
    (option_map-kind _ _ (λ i. refl) ▸ option_map-kind _ _ (λ e. refl) ▸ where_true-kind _ _ refl ▸ where_true-kind _ _ refl ▸ tt)

clash_kind : (s : Settings) (l : Lowered) → IsOfCheck (name_clash s l)
unfolding name_clash
clash_kind s l = or_kind (given_clash s l) (written_clash s l) (option_map-kind _ _ (λ name. refl)) (written_kind s l)

verdict_kind : (s : Settings) (l : Lowered) → IsOfCheck (verdict s l)
unfolding verdict
verdict_kind s l =
    let m = l.«module» in
    first_some-kind
    (threads m ∷ package_json l.aux ∷ unsupported l.wit ∷ bad_adapter l ∷ unbound_import s l ∷ bad_name s l ∷ global_twice s l ∷ name_clash s l ∷ module_clash s l ∷ unknown_class l ∷ thing_clash s l.aux ∷ fixed_thing s (own_names s m l.wit l.aux) l.aux ∷ bad_reexport s l.aux ∷ intrinsic_target s l ∷ link_not_embedded s l ∷ missing_part s l ∷ [])
    (where_true-kind _ _ refl ▸ where_true-kind _ _ refl ▸ first_of-kind unsupported_in l.wit.adapters (λ entry. option_map-kind _ _ (λ name. refl))
    ▸ option_map-kind _ _ (λ id. refl) ▸ option_map-kind _ _ (λ place. refl) ▸ option_map-kind _ _ (λ name. refl) ▸ option_map-kind _ _ (λ name. refl)
    ▸ clash_kind s l ▸ option_map-kind _ _ (λ name. refl) ▸ option_map-kind _ _ (λ name. refl) ▸ option_map-kind _ _ (λ t. refl) ▸ option_map-kind _ _ (λ t. refl) ▸ option_map-kind _ _ (λ r. refl)
    ▸ where_true-kind _ _ refl ▸ option_map-kind _ _ (λ path. refl) ▸ option_map-kind _ _ (λ part. refl) ▸ tt)

-- the first fault of a description is one
pub first_kind : (files : FileFlags) (s : Settings) (l : Lowered) (f : Fault) → first_some (unbuilt files s l ∷ verdict s l ∷ []) ≡ Some f → is_of_check f ≡ true
first_kind files s l f h = subst IsOfCheck h (first_some-kind (unbuilt files s l ∷ verdict s l ∷ []) (unbuilt_kind files s l ▸ verdict_kind s l ▸ tt))
