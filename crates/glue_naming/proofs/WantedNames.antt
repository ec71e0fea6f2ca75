-- What the list of wanted names holds: the names of classes, of enums, of imports, of functions, of re-exports and of namespaces.
use Rattle.std.proofs.Common.{List, map, sym, subst, inl, inr}
use Rattle.std.specs.List.{flat_map}
use Rattle.values.specs.Lists.{IsIn}
use Rattle.values.proofs.Members.{in_left, in_right, in_either}
use Rattle.glue_shared.specs.declared.description.Lowered.{Lowered}
use Rattle.glue_shared.specs.declared.settings.Settings.{Settings}
use Rattle.glue_naming.specs.Imported.{imports_wanted}
use Rattle.glue_naming.specs.Reexported.{reexports_wanted}
use Rattle.glue_naming.specs.Wanted.{AreWanted, class_names, enum_wanted, function_names, root_wanted}
use Rattle.glue_naming.specs.declared.named.Wanted.{Wanted}

module _ (s : Settings) (l : Lowered) (list : List Wanted) (wanted : AreWanted s l list) where
  abbrev pub classes : List Wanted
  classes = flat_map class_names l.aux.structs

  abbrev pub enums : List Wanted
  enums = map enum_wanted wanted.enums

  abbrev pub imports : List Wanted
  imports = imports_wanted s l wanted.pairs

  abbrev pub functions : List Wanted
  functions = flat_map function_names wanted.functions

  abbrev pub reexports : List Wanted
  reexports = reexports_wanted s l wanted.pairs

  abbrev pub roots : List Wanted
  roots = map root_wanted wanted.roots

  pub enum_there : (w : Wanted) → IsIn w enums → IsIn w list
  enum_there w i = subst (IsIn w) (sym wanted.all) (in_right w classes _ (in_left w enums _ i))

  pub import_there : (w : Wanted) → IsIn w imports → IsIn w list
  import_there w i = subst (IsIn w) (sym wanted.all) (in_right w classes _ (in_right w enums _ (in_left w imports _ i)))

  pub function_there : (w : Wanted) → IsIn w functions → IsIn w list
  function_there w i =
      subst (IsIn w) (sym wanted.all) (in_right w classes _ (in_right w enums _ (in_right w imports _ (in_left w functions _ i))))

  pub reexport_there : (w : Wanted) → IsIn w reexports → IsIn w list
  reexport_there w i =
      subst (IsIn w) (sym wanted.all)
      (in_right w classes _ (in_right w enums _ (in_right w imports _ (in_right w functions _ (in_left w reexports roots i)))))

  pub root_there : (w : Wanted) → IsIn w roots → IsIn w list
  root_there w i =
      subst (IsIn w) (sym wanted.all)
      (in_right w classes _ (in_right w enums _ (in_right w imports _ (in_right w functions _ (in_right w reexports roots i)))))

  -- and nothing else
  pub each_wanted : (P : Wanted → Type 0) → ((w : Wanted) → IsIn w classes → P w) → ((w : Wanted) → IsIn w enums → P w)
      → ((w : Wanted) → IsIn w imports → P w) → ((w : Wanted) → IsIn w functions → P w) → ((w : Wanted) → IsIn w reexports → P w)
      → ((w : Wanted) → IsIn w roots → P w)
      → (w : Wanted) → IsIn w list → P w
  each_wanted P class one import function reexport root w i = elim (in_either w classes _ (subst (IsIn w) wanted.all i)) [
    | inl here ↦ class w here
    | inr later ↦ elim (in_either w enums _ later) [
      | inl here ↦ one w here
      | inr later ↦ elim (in_either w imports _ later) [
        | inl here ↦ import w here
        | inr later ↦ elim (in_either w functions _ later) [
          | inl here ↦ function w here
          | inr later ↦ elim (in_either w reexports roots later) [ inl here ↦ reexport w here | inr here ↦ root w here ]
        ]
      ]
    ]
  ]
