-- The names that the objects of namespaces are given: each namespace at the root has one, an identifier that is taken for nothing else.
use Rattle.std.proofs.Common.{◌≡◌, ℕ, true, false, List}
use Rattle.std.specs.Prelude.{Some}
use Rattle.std.specs.FinSet as set
use Rattle.values.specs.Lists.{IsAway}
use Rattle.glue_words.specs.Ident.{is_ident}
use Rattle.glue_shared.specs.declared.aux.AuxEnum.{AuxEnum}
use Rattle.glue_shared.specs.declared.aux.AuxExport.{AuxExport}
use Rattle.glue_shared.specs.declared.description.Lowered.{Lowered}
use Rattle.glue_shared.specs.declared.import.JsImportName.{JsImportName}
use Rattle.glue_shared.specs.declared.name_map.NameMap.{NameMap}
use Rattle.glue_shared.specs.declared.settings.Settings.{Settings}
use Rattle.glue_shared.specs.Names.{fixed_names, host_names}
use Rattle.glue_published.specs.Roots.{is_root}
use Rattle.glue_names.specs.Publishing.{qualified}
use Rattle.glue_naming.specs.declared.named.Named.TheVariants.{Enum, Import, Function, Namespace}
use Rattle.glue_naming.specs.declared.named.Wanted.{Wanted}
use Rattle.glue_naming.specs.Given.{reserved_names}
use Rattle.glue_naming.specs.Naming.{AreNames, enum_name, function_name, import_name, root_name}
use Rattle.glue_naming.specs.Wanted.{enum_key, root_wanted}
use Rattle.glue_names.proofs.MappedLists.{in_map}
use Rattle.glue_naming.proofs.Reserved.{away_fixed, away_host}
use Rattle.glue_naming.proofs.WantedNames.{root_there}

root_one : (a b : List ℕ) → Namespace a ≡ Namespace b → a ≡ b
root_one a b e = cc

module _ (s : Settings) (l : Lowered) (m : NameMap) (n : AreNames s l m) where
  -- each namespace at the root has a name
  pub root_named : (root : List ℕ) → is_root s l.aux root ≡ true → (name : List ℕ) × (root_name m root ≡ Some name)
  root_named root h =
      let w = root_wanted root in
      let among = root_there s l n.list n.wanted w (in_map root_wanted root n.wanted.roots ((n.wanted.by_bytes.all root).1 h)) in
      n.good.found (Namespace root) (in_map (λ (x : Wanted). x.thing) w n.list among)

  module _ (root name : List ℕ) (is : root_name m root ≡ Some name) where
    -- the name is an identifier
    pub root_ident : is_ident name ≡ true
    root_ident = n.good.idents (Namespace root) name is

    -- it isn't reserved
    pub root_free : set.contains (reserved_names s l) name ≡ false
    root_free = n.good.free (Namespace root) name is

    -- so it is none of the outside, or one that the glue file binds in each case
    pub root_no_host : IsAway name (host_names s l.aux)
    root_no_host = away_host s l name root_free

    pub root_no_fixed : IsAway name (fixed_names s l.«module»)
    root_no_fixed = away_fixed s l name root_free

    -- it is that of no function, of no import and of no enum
    pub root_no_function : (x : AuxExport) → function_name m x ≡ Some name → ⊥
    root_no_function x k = let same = n.good.apart (Namespace root) (Function (qualified x)) name is k in cc

    pub root_no_import : (x : JsImportName) → import_name m x ≡ Some name → ⊥
    root_no_import x k = let same = n.good.apart (Namespace root) (Import x) name is k in cc

    pub root_no_enum : (x : AuxEnum) → enum_name m x ≡ Some name → ⊥
    root_no_enum x k = let same = n.good.apart (Namespace root) (Enum (enum_key x)) name is k in cc

    -- and no other namespace has it
    pub roots_apart : (other : List ℕ) → root_name m other ≡ Some name → root ≡ other
    roots_apart other k = root_one root other (n.good.apart (Namespace root) (Namespace other) name is k)
