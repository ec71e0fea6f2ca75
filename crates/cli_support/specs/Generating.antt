-- What a call of the generator comes to.
use Rattle.std.specs.Prelude.{◌≡◌, ◌≢◌, ◌⊎◌, ℕ, ◌==◌, Bool, true, false, not, ◌&&◌, ◌||◌, is_some, List, [], ◌∷◌, Option, Some, None, option_map, Result, Ok, Err, if◌then◌else◌}
use Rattle.std.specs.List.{list_all}
use Rattle.std.specs.Char.{is_ascii_alphanumeric}
use Rattle.wasm_core.specs.Contents.{Contents}
use Rattle.wasm_core.specs.Parsing.{module_of}
use Rattle.wasm_collect.specs.Collected.{collected}
use Rattle.wasm_core.specs.declared.faults.ParseFault.{ParseFault}
use Rattle.wasm_core.specs.declared.faults.ParseFault.TheVariants as parse
use Rattle.wasm_core.specs.declared.types.ParseConfig.{ParseConfig}
use Rattle.glue_words.specs.declared.item.Item.{Item}
use Rattle.glue_words.specs.Words.{printed}
use Rattle.glue_shared.specs.Names.{host_names, fixed_public}
use Rattle.glue_shared.specs.Roots.{roots_of}
use Rattle.glue_shared.specs.declared.settings.Settings.{Settings}
use Rattle.glue_shared.specs.declared.description.Lowered.{Lowered}
use Rattle.glue_faults.specs.declared.fault.Fault.{Fault}
use Rattle.glue_faults.specs.declared.fault.Fault.TheVariants as fault
use Rattle.glue_faults.specs.First.{first_some}
use Rattle.glue_check.specs.declared.files.FileFlags.{FileFlags}
use Rattle.glue_check.specs.FaultKinds.{is_of_check}
use Rattle.glue_check.specs.Verdict.{unbuilt, verdict}
use Rattle.glue_prepare.specs.declared.prepared.Prepared.{Prepared}
use Rattle.glue_prepare.specs.Prepared.{prepared}
use Rattle.cli_support.specs.Listed.{IsSortedSet}
use Rattle.cli_support.specs.Configured.{Configured, Input, call_settings, file_flags, reading}
use Rattle.cli_support.specs.declared.bindgen.Handed.{Handed}
use Rattle.cli_support.specs.declared.bindgen.Handed.TheVariants as handed
use Rattle.glue_context.specs.Edits.{has_start}
use Rattle.glue_shared.specs.declared.name_map.NameMap.{NameMap}
use Rattle.glue_naming.specs.Naming.{AreNames}
use Rattle.glue_context.specs.Items.{IsGlue}
use Rattle.glue_context.specs.Rewritten.{rewritten}
use Rattle.glue_context.specs.Linked.{IsLinked}
use Rattle.glue_context.specs.Defined.{IsDefined}
use Rattle.glue_targets.specs.Published.{IsPublished}
use Rattle.glue_context.specs.Keys.{described_keys}

-- an ASCII letter or digit, `_`, `-` or `.`
abbrev pub is_stem_byte : ℕ → Bool
is_stem_byte b = is_ascii_alphanumeric b || (b == 95 || (b == 45 || (b == 46)))

-- a name for files
abbrev pub is_stem : List ℕ → Bool
is_stem [] = false
is_stem (b ∷ bs) = is_stem_byte b && list_all is_stem_byte bs

-- a description with nothing left of its module but what can be reached from the exports and from what the description names
abbrev pub collected_description : Lowered → Lowered
collected_description l = record l { «module» = collected (roots_of l) l.«module» }

-- ---- the steps of a call

-- what is told of a step: what it comes to or its fault; nothing where the lowering doesn't tell
abbrev pub Told : Type 0 → Type 0
Told A = Option (Result A Fault)

abbrev pub pure : {A : Type 0} → A → Told A
pure x = Some (Ok x)

abbrev pub refuse : {A : Type 0} → Fault → Told A
refuse f = Some (Err f)

-- one step, and then another of what the first comes to; a fault ends it
infixl 10 ◌>>=◌
abbrev pub ◌>>=◌ : {A B : Type 0} → Told A → (A → Told B) → Told B
None >>= next = None
Some (Err f) >>= next = Some (Err f)
Some (Ok x) >>= next = next x

-- the same, where the first comes to nothing but that the second may go on
infixl 10 ◌>>◌
abbrev pub ◌>>◌ : {B : Type 0} → Told (Unit {0}) → Told B → Told B
first >> next = first >>= (λ _. next)

-- a fault, where the test fails
abbrev pub demand : Bool → Fault → Told (Unit {0})
demand test f = if test then pure tt else refuse f

-- what was tested, where it has no fault
abbrev pub unless : {A : Type 0} → Option Fault → A → Told A
unless None x = pure x
unless (Some f) x = refuse f

-- a step answers what is told of it, or want of memory
abbrev pub IsStep : {A : Type 0} → Result A Fault → Told A → Type 0
IsStep (Ok x) told = told ≡ pure x
IsStep (Err f) told = f ≢ fault.OutOfMemory → told ≡ refuse f

-- ---- what was set and handed in

-- a URL of debug information is set, but not that debug information is split off
abbrev pub has_idle_url : Configured → Bool
has_idle_url c = is_some c.debug_info_url && not c.flags.split_debug_info

-- the input, where one was handed in
abbrev pub found : Option Input → Told Input
found None = refuse fault.NoInput
found (Some input) = pure input

-- a module that an earlier call took
abbrev pub is_spent : Handed → Bool
is_spent (handed.Bytes bytes) = false
is_spent (handed.Module None) = true
is_spent (handed.Module (Some m)) = false

-- the tests of an input
abbrev pub tested : Input → Told (Unit {0})
tested input = do
  demand (not (is_spent input.1)) fault.InputSpent
  demand (is_stem input.0) fault.BadStem

-- the tests of what was set and handed in
abbrev pub checked : Configured → Told (Unit {0})
checked c = do
  demand (not (has_idle_url c)) fault.DebugUrlWithoutSplit
  input ← found c.input
  tested input

-- the module that the bytes are
abbrev pub parsed : Result Contents ParseFault → Told Contents
parsed (Ok m) = pure m
parsed (Err (parse.Parse place)) = refuse (fault.Parse place)
parsed (Err parse.OutOfMemory) = refuse fault.OutOfMemory

-- the module of an input, for a call that reads bytes in this way
abbrev pub module_in : ParseConfig → Handed → Told Contents
module_in config (handed.Bytes bytes) = parsed (module_of config bytes)
module_in config (handed.Module (Some m)) = pure m
module_in config (handed.Module None) = refuse fault.InputSpent

-- the module that was handed in
abbrev pub taken : Configured → Told Contents
taken c = do
  input ← found c.input
  module_in (reading c.flags) input.1

-- what stays of an input whose module was taken: bytes stay, a module doesn't
abbrev pub spent : Handed → Handed
spent (handed.Bytes bytes) = handed.Bytes bytes
spent (handed.Module «module») = handed.Module None

-- the same settings, and what stays of the input
abbrev pub with_spent : Configured → Configured
with_spent c = record c { input = option_map (λ input. (input.0, spent input.1)) c.input }

abbrev pub left_by : Told (Unit {0}) → Configured → Configured
left_by None c = c
left_by (Some (Err f)) c = c
left_by (Some (Ok x)) c = with_spent c

-- What stands after a call: all that was set, and the input. Its module is taken exactly where the tests of the input pass, and a
-- module that was handed in is spent then.
abbrev pub after_call : Configured → Configured
after_call c = left_by (checked c) c

-- ---- what the lowering is handed

-- the first fault before the lowering, or the settings of the call and the module that was handed in, made fit for each other
unfoldable pub ready : Configured → Told Prepared
ready c = do
  checked c
  m ← taken c
  Some (prepared c.flags.keep_lld_exports (call_settings c) m)

-- ---- the description

-- the description that the lowering tells
abbrev pub lowered : Option (Option Lowered) → Told Lowered
lowered None = None
lowered (Some None) = refuse fault.Lower
lowered (Some (Some l)) = pure l

-- the fault of a description: the first kind of what isn't built, and without one the first condition that is met
abbrev pub check_fault : FileFlags → Settings → Lowered → Option Fault
check_fault files s l = first_some (unbuilt files s l ∷ verdict s l ∷ [])

-- a description, with the settings that it was checked for, and whether no section told which features the module uses
pub record Described : Type 0 where
  pub settings : Settings
  pub description : Lowered
  pub features_missing : Bool

-- what is described by what the lowering tells of settings and a module
abbrev pub described_by : Prepared → Lowered → Described
described_by p l = record { settings = p.settings; description = collected_description l; features_missing = p.features_missing }

-- The first fault of a call, or the description that the lowering tells for the settings and the module that it is handed, with
-- nothing left of its module but what can be reached. None where the lowering doesn't tell.
unfoldable pub answer_of : (Settings → Contents → Option (Option Lowered)) → Configured → Told Described
answer_of told c = do
  p ← ready c
  l ← lowered (told p.settings p.«module»)
  unless (check_fault (file_flags c.flags) p.settings (collected_description l)) (described_by p l)

-- ---- what a call answers

-- what is made: the settings that the description was checked for, the names of the outside, the computed keys, the items, their text, the
-- module, and whether no section told which features the module uses
pub record Made : Type 0 where
  pub settings : Settings
  pub hosts : List (List ℕ)
  pub keys : List (List ℕ)
  pub items : List Item
  pub js : List ℕ
  pub «module» : Contents
  pub features_missing : Bool

-- the items that a description asks for, under names that are drawn for it
pub record AreItemsOf (settings : Settings) (l : Lowered) (items : List Item) : Type 0 where
  pub names : NameMap
  pub drawn : AreNames settings l names
  pub glue : IsGlue settings names l items

-- What a call makes of a description: the names of the outside (the description's among them) and its computed keys, in order of bytes and each once, the
-- items that it asks for under names that are drawn for it, their text, and the module with its own imports moved and its start function exported. The items are linked with
-- that module, define each own import once, and publish exactly the public tree.
pub record IsMadeOf (settings : Settings) (l : Lowered) (o : Made) : Type 0 where
  pub same_settings : o.settings ≡ settings
  pub hosts : IsSortedSet (host_names settings l.aux) o.hosts
  pub keys : IsSortedSet (described_keys l.aux) o.keys
  pub glue : AreItemsOf settings l o.items
  pub js : o.js ≡ printed o.items
  pub «module» : o.«module» ≡ rewritten settings l
  pub linked : IsLinked settings (host_names settings l.aux) (described_keys l.aux) o.«module» o.items (has_start l.«module»)
  pub defined : IsDefined settings glue.names l o.«module» o.items
  pub published : IsPublished settings l.aux (fixed_public settings l.«module» l.wit l.aux) o.items

-- the answer is the fault that is told, or want of memory
abbrev pub IsFaultOf : Fault → Result Described Fault → Type 0
IsFaultOf f told = f ≢ fault.OutOfMemory → told ≡ Err f

-- the check refuses some description with this fault, for the settings that the lowering is handed; so it is none of the faults that come
-- before it
pub record IsCheckFault (c : Configured) (f : Fault) : Type 0 where
  pub given : Prepared
  pub is : ready c ≡ pure given
  pub description : Lowered
  pub refused : check_fault (file_flags c.flags) given.settings (collected_description description) ≡ Some f
  pub kind : is_of_check f ≡ true

-- what may come behind a lowering that doesn't tell: want of memory, a fault of the lowering, or one of the check
abbrev pub IsLate : Configured → Fault → Type 0
IsLate c f = (f ≡ fault.OutOfMemory) ⊎ ((f ≡ fault.Lower) ⊎ IsCheckFault c f)

-- what is made of the description that is told
pub record IsMadeFrom (told : Result Described Fault) (o : Made) : Type 0 where
  pub found : Described
  pub is : told ≡ Ok found
  pub made : IsMadeOf found.settings found.description o
  pub same_features : o.features_missing ≡ found.features_missing

-- what is made of some description that has no fault, for the settings that the lowering is handed
pub record IsMadeOfSome (c : Configured) (o : Made) : Type 0 where
  pub given : Prepared
  pub is : ready c ≡ pure given
  pub description : Lowered
  pub passed : check_fault (file_flags c.flags) given.settings (collected_description description) ≡ None
  pub made : IsMadeOf given.settings (collected_description description) o
  pub same_features : o.features_missing ≡ given.features_missing

-- A call answers what is told: the fault, or what is made of the description. Where the lowering doesn't tell which it gives, the output
-- is made of some description without a fault.
abbrev pub Answers : Configured → Result Made Fault → Told Described → Type 0
Answers c (Ok o) None = IsMadeOfSome c o
Answers c (Err e) None = IsLate c e
Answers c (Ok o) (Some told) = IsMadeFrom told o
Answers c (Err e) (Some told) = IsFaultOf e told

-- what a call answers over a lowering that gives this
abbrev pub CallAnswers : (Settings → Contents → Option (Option Lowered)) → Configured → Result Made Fault → Type 0
CallAnswers told c answer = Answers c answer (answer_of told c)
