-- The words of items that publish or place what other items declare, and those of fixed texts.
use Rattle.std.specs.Prelude.{ℕ, nat_eq, Bool, true, false, List, [], ◌∷◌, ◌++◌, map, filter, codes}
use Rattle.std.specs.Prelude.{Option, Some, None, if◌then◌else◌}
use Rattle.std.specs.List.{flat_map}
use Rattle.std.specs.Cmp.Lexicographic.{pointwise}
use Rattle.glue_words.specs.declared.word.Word.{Word}
use Rattle.glue_words.specs.declared.word.Word.TheVariants as w
use Rattle.glue_words.specs.declared.punct.TheConstants as punct
use Rattle.glue_words.specs.declared.key.TheConstants as key
use Rattle.glue_words.specs.declared.item.Thing.{Thing}
use Rattle.glue_words.specs.declared.item.Thing.TheVariants as thing
use Rattle.glue_words.specs.declared.item.Role.{Role}
use Rattle.glue_words.specs.declared.item.Role.TheVariants as role
use Rattle.glue_words.specs.declared.item.Item.{Item}
use Rattle.glue_words.specs.Ident.{is_ident}
use Rattle.glue_words.specs.Names.{bound_in}
use Rattle.glue_words.specs.Words.{space, line_feed}
use Rattle.glue_shared.specs.declared.settings.Target.{Target}
use Rattle.glue_shared.specs.declared.settings.Target.TheVariants as target
use Rattle.glue_shared.specs.declared.settings.Settings.{Settings}
use Rattle.glue_shared.specs.Paths.{Path}
use Rattle.glue_targets.specs.Targets.{Frame, frame_texts, loading_texts}
use Rattle.glue_targets.specs.Published.{is_exported}

-- whether the glue file of the target is an ES module
abbrev pub is_es_module : Target → Bool
is_es_module (target.Bundler browser_only) = true
is_es_module target.Web = true
is_es_module (target.NoModules global) = false
is_es_module (target.Node is_module) = is_module
is_es_module target.Deno = true
is_es_module target.Module = true
is_es_module target.Emscripten = false

-- a name that an item binds, evaluated with the item or later
abbrev pub refers : List ℕ → List Word
refers name = w.Refer name false ∷ w.Refer name true ∷ []

-- the same of a name of the host
abbrev pub hosts : List ℕ → List Word
hosts name = w.Host name false ∷ w.Host name true ∷ []

-- the words for a name that stands for a thing: one that an item binds, or, for an import, it may be the host's
abbrev pub named : Thing → List ℕ → List Word
named (thing.Imported reexport) name = refers name ++ hosts name
named t name = refers name

-- `.name`, or `["name"]` where the name is no identifier
abbrev pub access_words : List ℕ → List Word
access_words name =
    if is_ident name then w.Punct punct.DOT ∷ w.Prop name ∷ []
    else w.Punct punct.OPEN_BRACKET ∷ w.Text name ∷ w.Punct punct.CLOSE_BRACKET ∷ []

-- the end of a statement
abbrev pub statement_end : List Word
statement_end = w.Punct punct.SEMICOLON ∷ line_feed ∷ []

-- `{}`
abbrev pub empty_object : List Word
empty_object = w.Punct punct.OPEN_BRACE ∷ w.Punct punct.CLOSE_BRACE ∷ []

-- what is assigned, by `=` or `||=`
abbrev pub assigned_words : ℕ → List Word → List Word
assigned_words operator value = space ∷ w.Punct operator ∷ space ∷ value ++ statement_end

-- `export { name as public };`
abbrev pub clause_words : List ℕ → Word → List Word
clause_words public name =
    w.Key key.EXPORT ∷ space ∷ w.Punct punct.OPEN_BRACE ∷ space ∷ name ∷ space ∷ w.Key key.AS ∷ space ∷ w.Outer public
    ∷ space ∷ w.Punct punct.CLOSE_BRACE ∷ statement_end

-- `exports.public = name;`, where `exports` is this word
abbrev pub exports_words : List ℕ → Word → Word → List Word
exports_words public name exports = exports ∷ access_words public ++ assigned_words punct.ASSIGN (name ∷ [])

-- the texts that publish a name for a thing: a clause in an ES module, else an assignment to the host's `exports`
abbrev pub publish_texts : Bool → List ℕ → Thing → List ℕ → List (List Word)
publish_texts true public t name = map (clause_words public) (named t name)
publish_texts false public t name =
    flat_map (λ word. map (exports_words public word) (hosts (codes "exports"))) (named t name)

-- `export ` where it is exported
abbrev pub export_first : Bool → List Word
export_first true = w.Key key.EXPORT ∷ space ∷ []
export_first false = []

-- `const name = {};`
abbrev pub root_words : Bool → List ℕ → List Word
root_words exported name =
    export_first exported ++ w.Key key.CONST ∷ space ∷ w.Bind name ∷ assigned_words punct.ASSIGN empty_object

-- the accesses of the segments after the first
abbrev pub access_chain : Path → List Word
access_chain [] = []
access_chain (first ∷ path) = flat_map access_words path

-- `root.path = {};`, with `||=` where the root may hold it already
abbrev pub inner_words : ℕ → Path → Word → List Word
inner_words operator path root = root ∷ access_chain path ++ assigned_words operator empty_object

-- `root.path = name;`
abbrev pub assign_words : Path → Word → Word → List Word
assign_words path name root = root ∷ access_chain path ++ assigned_words punct.ASSIGN (name ∷ [])

-- ---- the root of a path

-- a name under which something is published, and the thing
abbrev pub Root : Type 0
Root = List ℕ × Thing

-- an import isn't made by the glue file, and may hold a namespace already
abbrev pub is_imported : Thing → Bool
is_imported (thing.Imported name) = true
is_imported t = false

-- how an inner namespace is put in its place: `||=` where the root may hold it already
abbrev pub inner_operator : Thing → ℕ
inner_operator t = if is_imported t then punct.OR_ASSIGN else punct.ASSIGN

-- what an item of a role publishes under this name at the top level, where it is exported or not and binds these names
abbrev pub roots_by : List ℕ → Role → Bool → List (List ℕ) → List Root
roots_by segment (role.Declare t) true names = map (λ name. (name, t)) (filter (pointwise nat_eq segment) names)
roots_by segment (role.Namespace (p ∷ [])) true names =
    map (λ name. (name, thing.Group (p ∷ []))) (filter (pointwise nat_eq segment) names)
roots_by segment (role.Publish (p ∷ []) t name) exported names =
    if pointwise nat_eq p segment then (name, t) ∷ [] else []
roots_by segment role exported names = []

-- what items publish under this name at the top level
abbrev pub roots_of : List ℕ → List Item → List Root
roots_of segment items =
    flat_map (λ (item : Item). roots_by segment item.role (is_exported item) (bound_in item.words)) items

-- ---- the texts of a role

-- the words for a root
abbrev pub named_root : Root → List Word
named_root root = named root.1 root.0

-- the texts of an inner namespace, at each root that its path may begin with
abbrev pub inner_texts : Path → List Root → List (List Word)
inner_texts path roots =
    flat_map (λ (root : Root). map (inner_words (inner_operator root.1) path) (named_root root)) roots

-- the texts that place a name for a thing at a path, at each root that the path may begin with
abbrev pub assign_texts : Path → Thing → List ℕ → List Root → List (List Word)
assign_texts path t name roots =
    flat_map (λ word. map (assign_words path word) (flat_map named_root roots)) (named t name)

-- the texts that an item of a role may have, where the role asks for one, for this frame
abbrev pub role_words : Settings → Bool → Frame → List Item → Role → List (List ℕ) → Option (List (List Word))
role_words settings has_start frame items (role.Publish [] t name) bound = Some []
role_words settings has_start frame items (role.Publish (p ∷ []) t name) bound =
    Some (publish_texts (is_es_module settings.target) p t name)
role_words settings has_start frame items (role.Publish (p ∷ next ∷ path) t name) bound = Some []
role_words settings has_start frame items (role.Namespace []) bound = Some []
role_words settings has_start frame items (role.Namespace (p ∷ [])) bound =
    Some (map (λ name. root_words (if pointwise nat_eq name p then is_es_module settings.target else false) name) bound)
role_words settings has_start frame items (role.Namespace (p ∷ next ∷ path)) bound =
    Some (inner_texts (p ∷ next ∷ path) (roots_of p items))
role_words settings has_start frame items (role.Assign [] t name) bound = Some []
role_words settings has_start frame items (role.Assign (p ∷ []) t name) bound = Some []
role_words settings has_start frame items (role.Assign (p ∷ next ∷ path) t name) bound =
    Some (assign_texts (p ∷ next ∷ path) t name (roots_of p items))
role_words settings has_start frame items role.Fixed bound =
    Some (map (λ text. text.words) (frame_texts settings.target settings.stem frame))
role_words settings has_start frame items role.Loading bound =
    Some (map (λ text. text.words) (loading_texts settings.target settings.stem frame has_start))
role_words settings has_start frame items role.Import bound = None
role_words settings has_start frame items (role.Foreign number) bound = None
role_words settings has_start frame items (role.Define place) bound = None
role_words settings has_start frame items (role.Declare t) bound = None
role_words settings has_start frame items (role.Helper name) bound = None
role_words settings has_start frame items role.Body bound = None
