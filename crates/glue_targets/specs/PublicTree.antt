-- The public tree: each path under which the glue file publishes something, with what stands there.
use Rattle.std.specs.Prelude.{ℕ, nat_eq, Bool, true, false, not, List, [], ◌∷◌, ◌++◌, map, filter, codes}
use Rattle.std.specs.List.{flat_map, list_any}
use Rattle.std.specs.Cmp.Lexicographic.{pointwise}
use Rattle.glue_words.specs.declared.item.Thing.{Thing}
use Rattle.glue_words.specs.declared.item.Thing.TheVariants as thing
use Rattle.glue_shared.specs.declared.aux.AuxExport.{AuxExport}
use Rattle.glue_shared.specs.declared.aux.AuxExportKind.{AuxExportKind}
use Rattle.glue_shared.specs.declared.aux.AuxExportKind.TheVariants as kinds
use Rattle.glue_shared.specs.declared.aux.AuxStruct.{AuxStruct}
use Rattle.glue_shared.specs.declared.aux.AuxEnum.{AuxEnum}
use Rattle.glue_shared.specs.declared.aux.WasmBindgenAux.{WasmBindgenAux}
use Rattle.glue_shared.specs.declared.settings.Settings.{Settings}
use Rattle.glue_shared.specs.Paths.{Path, qualified_name}

-- a path and what stands there
abbrev pub PublicPair : Type 0
PublicPair = Path × Thing

-- nothing, where it is private and stands at the top level
abbrev pub unless_hidden : Bool → Path → List ℕ → Thing → List PublicPair
unless_hidden true [] name thing = []
unless_hidden true (segment ∷ namespace) name thing = ((segment ∷ namespace) ++ name ∷ [], thing) ∷ []
unless_hidden false namespace name thing = (namespace ++ name ∷ [], thing) ∷ []

-- a function stands by itself, a constructor, a method and an accessor stand in their class
abbrev pub function_pair : AuxExportKind → AuxExport → List PublicPair
function_pair kinds.Function e = (e.namespace ++ e.name ∷ [], thing.Adapter e.adapter) ∷ []
function_pair kinds.FunctionThis e = (e.namespace ++ e.name ∷ [], thing.Adapter e.adapter) ∷ []
function_pair kinds.Constructor e = []
function_pair (kinds.Method kind) e = []

abbrev pub class_pair : AuxStruct → List PublicPair
class_pair c = unless_hidden c.private c.namespace c.name (thing.Class (qualified_name c.namespace c.name))

abbrev pub enum_pair : AuxEnum → List PublicPair
enum_pair e = unless_hidden e.private e.namespace e.name (thing.Enum (qualified_name e.namespace e.name))

-- the function that starts the module anew, where it is asked for
abbrev pub reset_pair : Bool → List PublicPair
reset_pair true = (codes "__wbg_reset_state" ∷ [], thing.Reset) ∷ []
reset_pair false = []

-- functions, classes, enums, re-exports and the reset function
abbrev pub own_pairs : Settings → WasmBindgenAux → List PublicPair
own_pairs settings aux =
    flat_map (λ e. function_pair e.kind e) aux.exports ++ (flat_map class_pair aux.structs ++ (flat_map enum_pair aux.enums
    ++ (map (λ r. (r.0 ∷ [], thing.Imported r.0)) aux.reexports ++ reset_pair settings.reset_state)))

-- the proper fronts of a path that aren't empty
abbrev pub fronts : Path → List Path
fronts [] = []
fronts (segment ∷ []) = []
fronts (segment ∷ next ∷ path) = (segment ∷ []) ∷ map (λ front. segment ∷ front) (fronts (next ∷ path))

abbrev pub same_path : Path → Path → Bool
same_path = pointwise (pointwise nat_eq)

-- whether a pair stands at the path
abbrev pub is_taken : List PublicPair → Path → Bool
is_taken pairs path = list_any (λ pair. same_path pair.0 path) pairs

-- the namespaces: the fronts of the paths that have no pair of their own
abbrev pub groups_of : List PublicPair → List PublicPair
groups_of pairs = map (λ front. (front, thing.Group front)) (filter (λ front. not (is_taken pairs front)) (flat_map (λ (pair : PublicPair). fronts pair.0) pairs))

-- all that is published, as a set
abbrev pub public_tree : Settings → WasmBindgenAux → List PublicPair
public_tree settings aux = own_pairs settings aux ++ groups_of (own_pairs settings aux)
