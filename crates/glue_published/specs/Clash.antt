-- Things that can't be published beside one another.
use Rattle.std.specs.Prelude.{ℕ, Bool, not, ◌&&◌, ◌||◌, is_some, true, List, Option, option_map, if◌then◌else◌}
use Rattle.std.specs.List.{list_any}
use Rattle.std.specs.BTreeMap.{insert_entry}
use Rattle.std.specs.Str.{bytes_eq}
use Rattle.values.specs.Map.{look_up}
use Rattle.glue_shared.specs.Paths.{Path}
use Rattle.glue_shared.specs.declared.aux.WasmBindgenAux.{WasmBindgenAux}
use Rattle.glue_shared.specs.declared.settings.Settings.{Settings}
use Rattle.glue_targets.specs.PublicTree.{fronts, same_path}
use Rattle.glue_faults.specs.declared.fault.Fault.{Fault}
use Rattle.glue_faults.specs.declared.fault.Fault.TheVariants as faults
use Rattle.glue_faults.specs.Clash.{first_clash}
use Rattle.glue_exports.specs.Fronts.{path_order, runs_through, AreKeys}
use Rattle.glue_published.specs.declared.things.PublishedThing.{PublishedThing}
use Rattle.glue_published.specs.Sets.{holds, AreNames}
use Rattle.glue_published.specs.Things.{published_things}

-- the path of the second runs through that of the first, which is no re-export
abbrev pub blocks : PublishedThing → PublishedThing → Bool
blocks thing below = not thing.is_reexport && runs_through below.path thing.path

-- two things of one qualified name, or one of which blocks the other
abbrev pub collide : PublishedThing → PublishedThing → Bool
collide earlier later = bytes_eq earlier.qualified later.qualified || (blocks earlier later || blocks later earlier)

-- two things of one path or one qualified name, or one of which blocks the other
abbrev pub clash : PublishedThing → PublishedThing → Bool
clash earlier later = same_path earlier.path later.path || collide earlier later

-- the first thing that clashes with an earlier one, private ones too
abbrev pub thing_clash : Settings → WasmBindgenAux → Option Fault
thing_clash settings aux = option_map (λ t. faults.ExportClash t.qualified) (first_clash clash (published_things settings aux))

-- ---- how they are found

-- the qualified names of things, the paths of those that are no re-exports, and the paths that those of all run through
pub record AreKnown (name_set : List (List ℕ × Bool)) (declared_set front_set : List (Path × Bool)) (things : List PublishedThing) : Type 0 where
  pub names : AreNames name_set (λ name. list_any (λ t. bytes_eq name t.qualified) things)
  pub declared : AreKeys declared_set (λ path. list_any (λ t. not t.is_reexport && same_path path t.path) things)
  pub fronts : AreKeys front_set (λ path. list_any (λ t. runs_through t.path path) things)

-- a thing meets those of which these are the names, the paths of declared ones and the fronts
abbrev pub meets : List (List ℕ × Bool) → (declared_set front_set : List (Path × Bool)) → PublishedThing → Bool
meets name_set declared_set front_set t =
    holds name_set t.qualified
    || (list_any (λ front. is_some (look_up path_order declared_set front)) (fronts t.path)
    || (not t.is_reexport && is_some (look_up path_order front_set t.path)))

-- paths, with that of a thing where it is no re-export
abbrev pub with_declared : List (Path × Bool) → PublishedThing → List (Path × Bool)
with_declared declared t = if t.is_reexport then declared else insert_entry path_order declared t.path true
