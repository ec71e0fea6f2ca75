-- What a description asks for is declared.
use Rattle.std.proofs.Common.{ℕ, List, [], ◌∷◌, ◌++◌, map, refl, inl, inr}
use Rattle.std.proofs.lemmas.List.{map-append}
use Rattle.std.specs.List.{AllZip}
use Rattle.values.specs.Lists.{IsIn}
use Rattle.glue_shared.specs.declared.aux.AuxEnum.{AuxEnum}
use Rattle.glue_shared.specs.declared.aux.AuxExport.{AuxExport}
use Rattle.glue_shared.specs.declared.aux.WasmBindgenAux.{WasmBindgenAux}
use Rattle.glue_shared.specs.declared.import.JsImportName.{JsImportName}
use Rattle.glue_shared.specs.declared.name_map.NameMap.{NameMap}
use Rattle.glue_exports.specs.Sound.{IsSound, AreSound}
use Rattle.glue_exports.specs.Tree.{Entry}
use Rattle.glue_exports.proofs.EnumFacts.{enum_is_declaration}
use Rattle.glue_public.specs.declared.definitions.PublicDefinition.{PublicDefinition}
use Rattle.glue_public.specs.Described.{FunctionItems, Reexport, lone_functions, zipped, enum_name, enum_definition, reexport_definition, described, entry_of}
use Rattle.glue_public.specs.Public.{IsDeclared}

functions_sound : (lone : List AuxExport) (functions : List FunctionItems) → AllZip IsDeclared lone functions
    → AreSound (map entry_of (zipped lone functions))
functions_sound [] functions h = tt
functions_sound (e ∷ lone) [] h = tt
functions_sound (e ∷ lone) (f ∷ functions) h = (h.0, functions_sound lone functions h.1)

enums_sound : (given : List (List ℕ × List ℕ)) (es : List AuxEnum) → AreSound (map entry_of (map (enum_definition given) es))
enums_sound given [] = tt
enums_sound given (e ∷ es) = (inr (enum_is_declaration e (enum_name given e)), enums_sound given es)

reexports_sound : (given : List (JsImportName × List ℕ)) (rs : List Reexport)
    → AreSound (map entry_of (map (reexport_definition given) rs))
reexports_sound given [] = tt
reexports_sound given (r ∷ rs) = (inl refl, reexports_sound given rs)

sound_both : (some more : List Entry) → AreSound some → AreSound more → AreSound (some ++ more)
sound_both [] more h k = k
sound_both (e ∷ some) more h k = (h.0, sound_both some more h.1 k)

definitions_both : (some more : List PublicDefinition) → AreSound (map entry_of some) → AreSound (map entry_of more)
    → AreSound (map entry_of (some ++ more))
definitions_both some more h k = rw (map-append entry_of some more) (sound_both (map entry_of some) (map entry_of more) h k)

pub described_sound : (aux : WasmBindgenAux) (given : NameMap) (functions : List FunctionItems)
    → AllZip IsDeclared (lone_functions aux.exports) functions → AreSound (map entry_of (described aux given functions))
described_sound aux given functions declared =
    let enums = map (enum_definition given.enums) aux.enums in
    let reexports = map (reexport_definition given.imports) aux.reexports in
    definitions_both (zipped (lone_functions aux.exports) functions) (enums ++ reexports)
    (functions_sound (lone_functions aux.exports) functions declared)
    (definitions_both enums reexports (enums_sound given.enums aux.enums) (reexports_sound given.imports aux.reexports))

-- what is said of all of them is said of each
pub each_sound : (tree : List Entry) (e : Entry) → AreSound tree → IsIn e tree → IsSound e.1
each_sound [] e h i = absurd i
each_sound (f ∷ tree) e h (inl same) = rw same h.0
each_sound (f ∷ tree) e h (inr i) = each_sound tree e h.1 i
