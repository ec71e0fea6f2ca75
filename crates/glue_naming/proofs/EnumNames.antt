-- The names that enums are given: each enum that is described has one, an identifier that is taken for nothing else.
use Rattle.std.proofs.Common.{◌≡◌, ℕ, true, false, List, map}
use Rattle.std.specs.Prelude.{Some}
use Rattle.std.specs.FinSet as set
use Rattle.std.proofs.lemmas.List.Sorted.{IsPermutation-sym}
use Rattle.values.specs.Lists.{IsIn, IsAway}
use Rattle.glue_words.specs.Ident.{is_ident}
use Rattle.glue_shared.specs.declared.aux.AuxEnum.{AuxEnum}
use Rattle.glue_shared.specs.declared.aux.AuxExport.{AuxExport}
use Rattle.glue_shared.specs.declared.description.Lowered.{Lowered}
use Rattle.glue_shared.specs.declared.import.JsImportName.{JsImportName}
use Rattle.glue_shared.specs.declared.name_map.NameMap.{NameMap}
use Rattle.glue_shared.specs.declared.settings.Settings.{Settings}
use Rattle.glue_shared.specs.Names.{fixed_names, host_names}
use Rattle.glue_names.specs.Publishing.{qualified}
use Rattle.glue_naming.specs.declared.named.Named.TheVariants.{Enum, Import, Function, Namespace}
use Rattle.glue_naming.specs.declared.named.Wanted.{Wanted}
use Rattle.glue_naming.specs.Given.{reserved_names}
use Rattle.glue_naming.specs.Naming.{AreNames, enum_name, function_name, import_name, root_name}
use Rattle.glue_naming.specs.Wanted.{enum_key, enum_wanted}
use Rattle.glue_naming.proofs.Arranged.{moved_from}
use Rattle.glue_names.proofs.MappedLists.{in_map}
use Rattle.glue_naming.proofs.Reserved.{away_fixed, away_host}
use Rattle.glue_naming.proofs.WantedNames.{enum_there}

enum_one : (a b : List ℕ) → Enum a ≡ Enum b → a ≡ b
enum_one a b e = cc

module _ (s : Settings) (l : Lowered) (m : NameMap) (n : AreNames s l m) where
  -- each enum that is described has a name
  pub enum_named : (e : AuxEnum) → IsIn e l.aux.enums → (name : List ℕ) × (enum_name m e ≡ Some name)
  enum_named e i =
      let key = moved_from n.wanted.enums (map enum_key l.aux.enums) (IsPermutation-sym _ _ n.wanted.by_name.same) (enum_key e)
      (in_map enum_key e l.aux.enums i) in
      let w = enum_wanted (enum_key e) in
      let among = enum_there s l n.list n.wanted w (in_map enum_wanted (enum_key e) n.wanted.enums key) in
      n.good.found (Enum (enum_key e)) (in_map (λ (x : Wanted). x.thing) w n.list among)

  module _ (e : AuxEnum) (name : List ℕ) (is : enum_name m e ≡ Some name) where
    -- the name is an identifier
    pub enum_ident : is_ident name ≡ true
    enum_ident = n.good.idents (Enum (enum_key e)) name is

    -- it isn't reserved
    pub enum_free : set.contains (reserved_names s l) name ≡ false
    enum_free = n.good.free (Enum (enum_key e)) name is

    -- so it is none of the outside, or one that the glue file binds in each case
    pub enum_no_host : IsAway name (host_names s l.aux)
    enum_no_host = away_host s l name enum_free

    pub enum_no_fixed : IsAway name (fixed_names s l.«module»)
    enum_no_fixed = away_fixed s l name enum_free

    -- it is that of no function, of no import and of no namespace
    pub enum_no_function : (x : AuxExport) → function_name m x ≡ Some name → ⊥
    enum_no_function x k = let same = n.good.apart (Enum (enum_key e)) (Function (qualified x)) name is k in cc

    pub enum_no_import : (x : JsImportName) → import_name m x ≡ Some name → ⊥
    enum_no_import x k = let same = n.good.apart (Enum (enum_key e)) (Import x) name is k in cc

    pub enum_no_root : (root : List ℕ) → root_name m root ≡ Some name → ⊥
    enum_no_root root k = let same = n.good.apart (Enum (enum_key e)) (Namespace root) name is k in cc

    -- and an enum that has it too has the same qualified name
    pub enums_apart : (x : AuxEnum) → enum_name m x ≡ Some name → enum_key e ≡ enum_key x
    enums_apart x k = enum_one (enum_key e) (enum_key x) (n.good.apart (Enum (enum_key e)) (Enum (enum_key x)) name is k)
