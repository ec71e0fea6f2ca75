-- The items of an export tree: the declarations, the objects of namespaces, and what publishes each definition at its path.
use Rattle.std.specs.Prelude.{ℕ, Bool, true, false, not, ◌&&◌, ◌||◌, List, [], ◌∷◌, ◌++◌, map, filter, Option, Some, None, if◌then◌else◌}
use Rattle.std.specs.Ordering.{nat_cmp}
use Rattle.std.specs.List.{flat_map, list_any}
use Rattle.std.specs.Str.{bytes_eq}
use Rattle.std.specs.Cmp.Lexicographic.{slice_cmp}
use Rattle.values.specs.Map.{look_up}
use Rattle.glue_words.specs.declared.word.Word.{Word}
use Rattle.glue_words.specs.declared.word.Word.TheVariants as w
use Rattle.glue_words.specs.declared.punct.TheConstants as punct
use Rattle.glue_words.specs.declared.item.Item.{Item}
use Rattle.glue_words.specs.declared.item.Role.{Role}
use Rattle.glue_words.specs.declared.item.Role.TheVariants as role
use Rattle.glue_words.specs.declared.item.Thing.{Thing}
use Rattle.glue_words.specs.declared.item.Thing.TheVariants as thing
use Rattle.glue_shared.specs.Names.{is_one_of}
use Rattle.glue_shared.specs.Paths.{Path}
use Rattle.glue_targets.specs.PublicTree.{fronts, same_path}
use Rattle.glue_targets.specs.RoleWords.{export_first, clause_words, root_words, inner_words, assign_words}
use Rattle.glue_exports.specs.declared.definition.ExportDefinition.{ExportDefinition}
use Rattle.glue_exports.specs.Fronts.{runs_through}
use Rattle.glue_exports.specs.Tree.{Entry, is_reexport}

-- the names drawn for namespaces at the root, in the order of the namespaces' own
abbrev pub RootNames : Type 0
RootNames = List (List ℕ × List ℕ)

-- the value, or this one
abbrev pub value_or : {A : Type 0} → A → Option A → A
value_or other None = other
value_or other (Some x) = x

-- the name of a namespace at the root: the drawn one, or where none was drawn its own
abbrev pub root_name : RootNames → List ℕ → List ℕ
root_name roots segment = value_or segment (look_up (slice_cmp nat_cmp) roots segment)

-- The word that names a definition, evaluated with its item or later: a re-export may be a name of the host.
abbrev pub named_word : (hosts : List (List ℕ)) → ExportDefinition → (now : Bool) → Word
named_word hosts d now =
    if is_reexport d && is_one_of hosts d.identifier then w.Host d.identifier now else w.Refer d.identifier now

-- ---- the top level

-- `export ` behind the notes that words begin with, and behind the gaps that follow a note
abbrev pub export_behind : (noted : Bool) → List Word → List Word
export_behind noted (w.Note kind text ∷ words) = w.Note kind text ∷ export_behind true words
export_behind true (w.Gap text ∷ words) = w.Gap text ∷ export_behind true words
export_behind noted words = export_first true ++ words

-- words with `export ` before them, or behind the notes that they begin with
abbrev pub export_behind_notes : List Word → List Word
export_behind_notes words = export_behind false words

-- an item with `export ` before its words, behind its notes, where it is a declaration
abbrev pub exported_by : Role → Item → Item
exported_by (role.Declare t) item = record { role = item.role; words = export_behind_notes item.words }
exported_by role item = item

abbrev pub exported_item : Item → Item
exported_item item = exported_by item.role item

-- `export { name as segment };`
abbrev pub publish_item : List ℕ → Thing → List ℕ → Word → Item
publish_item segment t name word =
    record { role = role.Publish (segment ∷ []) t name; words = clause_words segment word }

abbrev pub publish_definition : (hosts : List (List ℕ)) → List ℕ → ExportDefinition → Item
publish_definition hosts segment d = publish_item segment d.thing d.identifier (named_word hosts d false)

-- A definition at the top level that is no re-export: declared, and not private either exported where it is declared, under
-- its own name, or published behind it.
abbrev pub top_items : (hosts : List (List ℕ)) → List ℕ → ExportDefinition → List Item
top_items hosts segment d =
    if d.private then d.items
    else (if bytes_eq d.identifier segment then map exported_item d.items
    else d.items ++ publish_definition hosts segment d ∷ [])

-- ---- namespaces

-- `const name = {};`, exported where that is the namespace's own name
abbrev pub root_item : List ℕ → List ℕ → Item
root_item segment name =
    record { role = role.Namespace (segment ∷ []); words = root_words (bytes_eq name segment) name }

-- the clause that publishes a namespace's object under the namespace's own name, where it has another
abbrev pub root_publish : List ℕ → List ℕ → List Item
root_publish segment name =
    if bytes_eq name segment then [] else publish_item segment (thing.Group (segment ∷ [])) name (w.Refer name false) ∷ []

-- `root.path = {};`, with this operator
abbrev pub inner_item : (root : Word) (operator : ℕ) → Path → Item
inner_item root operator path = record { role = role.Namespace path; words = inner_words operator path root }

-- `root.path = name;`
abbrev pub assign_item : (hosts : List (List ℕ)) (root : Word) → Entry → Item
assign_item hosts root e =
    record { role = role.Assign e.0 e.1.thing e.1.identifier; words = assign_words e.0 (named_word hosts e.1 true) root }

-- the fronts of a path that have two segments or more
abbrev pub inner_fronts : Path → List Path
inner_fronts [] = []
inner_fronts (segment ∷ path) = map (λ front. segment ∷ front) (fronts path)

-- an object stands at a path already: a definition that is printed before has it, or runs through it
abbrev pub is_placed : (before : List Entry) → Path → Bool
is_placed before path = list_any (λ e. same_path e.0 path || runs_through e.0 path) before

-- the objects that have to be put in their places before what stands at this path
abbrev pub new_fronts : (before : List Entry) → Path → List Path
new_fronts before path = filter (λ front. not (is_placed before front)) (inner_fronts path)

-- what puts a definition at its path, behind what others before it have put there
abbrev pub place_items : (hosts : List (List ℕ)) (root : Word) (operator : ℕ) → List Entry → Entry → List Item
place_items hosts root operator before e =
    map (inner_item root operator) (new_fronts before e.0) ++ assign_item hosts root e ∷ []

-- the same of all of these, in their order
abbrev pub places_from : (hosts : List (List ℕ)) (root : Word) (operator : ℕ) → List Entry → List Entry → List Item
places_from hosts root operator before [] = []
places_from hosts root operator before (e ∷ below) =
    place_items hosts root operator before e ++ places_from hosts root operator (before ++ e ∷ []) below

-- the declarations of these
abbrev pub declared_below : List Entry → List Item
declared_below below = flat_map (λ (e : Entry). e.1.items) below

-- A namespace at the root: the declarations of what stands below it, its object, then what is put there, and the clause
-- that publishes it where it goes by another name.
abbrev pub namespace_items : RootNames → (hosts : List (List ℕ)) → List ℕ → List Entry → List Item
namespace_items roots hosts segment below =
    let name = root_name roots segment in
    declared_below below ++ (root_item segment name
    ∷ (places_from hosts (w.Refer name true) punct.ASSIGN [] below ++ root_publish segment name))

-- A re-export at the root: what stands below it is put into the object that it names, which may hold a namespace already.
abbrev pub reexport_items : (hosts : List (List ℕ)) → List ℕ → ExportDefinition → List Entry → List Item
reexport_items hosts segment d below =
    declared_below below ++ (places_from hosts (named_word hosts d true) punct.OR_ASSIGN [] below
    ++ publish_definition hosts segment d ∷ [])

-- ---- all of them

-- the items of definitions under one root, the first of which may stand at the root itself
abbrev pub run_items : RootNames → (hosts : List (List ℕ)) → List Entry → List Item
run_items roots hosts [] = []
run_items roots hosts (([], d) ∷ below) = []
run_items roots hosts ((segment ∷ [], d) ∷ below) =
    if is_reexport d then reexport_items hosts segment d below else top_items hosts segment d
run_items roots hosts ((segment ∷ next ∷ path, d) ∷ below) =
    namespace_items roots hosts segment ((segment ∷ next ∷ path, d) ∷ below)

-- two paths begin with the same segment
abbrev pub share_root : Path → Path → Bool
share_root (a ∷ path) (b ∷ other) = bytes_eq a b
share_root path other = false

-- definitions one behind the other under one root are a run: those that stand behind a run that has begun with this one
abbrev pub runs_from : Entry → List Entry → List Entry → List (List Entry)
runs_from first more [] = (first ∷ more) ∷ []
runs_from first more (e ∷ es) =
    if share_root first.0 e.0 then runs_from first (more ++ e ∷ []) es else (first ∷ more) ∷ runs_from e [] es

abbrev pub runs : List Entry → List (List Entry)
runs [] = []
runs (e ∷ es) = runs_from e [] es

-- the path is one name
abbrev pub is_at_top : Path → Bool
is_at_top (segment ∷ []) = true
is_at_top path = false

-- a private re-export at the top level leaves nothing
abbrev pub is_shown : Entry → Bool
is_shown e = not (is_reexport e.1 && (e.1.private && is_at_top e.0))

-- the items of a tree, root by root
abbrev pub tree_items : RootNames → (hosts : List (List ℕ)) → List Entry → List Item
tree_items roots hosts tree = flat_map (run_items roots hosts) (runs (filter is_shown tree))
