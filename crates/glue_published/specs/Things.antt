-- What a description asks to publish: things with their paths, in the description's order.
use Rattle.std.specs.Prelude.{ℕ, Bool, true, false, not, ◌&&◌, ◌||◌, List, [], ◌∷◌, ◌++◌, map, codes, if◌then◌else◌}
use Rattle.std.specs.List.{flat_map}
use Rattle.glue_shared.specs.Paths.{Path, qualified_name}
use Rattle.glue_shared.specs.declared.aux.AuxExport.{AuxExport}
use Rattle.glue_shared.specs.declared.aux.AuxExportKind.{AuxExportKind}
use Rattle.glue_shared.specs.declared.aux.AuxExportKind.TheVariants as kinds
use Rattle.glue_shared.specs.declared.aux.AuxStruct.{AuxStruct}
use Rattle.glue_shared.specs.declared.aux.AuxEnum.{AuxEnum}
use Rattle.glue_shared.specs.declared.aux.WasmBindgenAux.{WasmBindgenAux}
use Rattle.glue_shared.specs.declared.import.JsImport.{JsImport}
use Rattle.glue_shared.specs.declared.settings.Settings.{Settings}
use Rattle.glue_shared.specs.declared.settings.Target.{Target}
use Rattle.glue_shared.specs.declared.settings.Target.TheVariants as targets
use Rattle.glue_published.specs.declared.things.PublishedThing.{PublishedThing}

-- what has this name in this namespace
abbrev pub thing_at : Path → List ℕ → (is_reexport is_private : Bool) → PublishedThing
thing_at namespace name is_reexport is_private = record {
  path = namespace ++ name ∷ [];
  qualified = qualified_name namespace name;
  is_reexport = is_reexport;
  is_private = is_private;
}

-- a function stands by itself; a constructor, a method and an accessor stand in their class
abbrev pub stands_alone : AuxExportKind → Bool
stands_alone kinds.Function = true
stands_alone kinds.FunctionThis = true
stands_alone kinds.Constructor = false
stands_alone (kinds.Method kind) = false

-- the function, if it is one that stands by itself
abbrev pub export_things : AuxExport → List PublishedThing
export_things e = if stands_alone e.kind then thing_at e.namespace e.name false false ∷ [] else []

abbrev pub class_thing : AuxStruct → PublishedThing
class_thing c = thing_at c.namespace c.name false c.private

abbrev pub enum_thing : AuxEnum → PublishedThing
enum_thing e = thing_at e.namespace e.name false e.private

-- a re-export stands at the top level
abbrev pub reexport_thing : List ℕ × JsImport × Bool → PublishedThing
reexport_thing r = thing_at [] r.0 true false

-- the function that starts the module anew, which is private where the settings don't ask for it
abbrev pub reset_thing : Settings → PublishedThing
reset_thing settings = thing_at [] (codes "__wbg_reset_state") false (not settings.reset_state)

abbrev pub is_emscripten : Target → Bool
is_emscripten targets.Emscripten = true
is_emscripten other = false

-- it stands where the description needs it or the settings ask for it, but on Emscripten
abbrev pub has_reset : Settings → WasmBindgenAux → Bool
has_reset settings aux = (aux.uses_reinit || settings.reset_state) && not (is_emscripten settings.target)

-- the function that starts the module anew, if it stands
abbrev pub reset_things : Settings → WasmBindgenAux → List PublishedThing
reset_things settings aux = if has_reset settings aux then reset_thing settings ∷ [] else []

-- functions, classes, enums, re-exports and the reset function
abbrev pub published_things : Settings → WasmBindgenAux → List PublishedThing
published_things settings aux =
    flat_map export_things aux.exports
    ++ (map class_thing aux.structs
    ++ (map enum_thing aux.enums
    ++ (map reexport_thing aux.reexports
    ++ reset_things settings aux)))
