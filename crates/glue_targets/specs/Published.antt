-- What items publish.
use Rattle.std.specs.Prelude.{◌≡◌, ℕ, zero, suc, ◌+◌, ◌-◌, ◌==◌, Bool, true, false, not, ◌⊎◌, List, [], ◌∷◌, ◌++◌, map, codes, Option}
use Rattle.std.specs.Prelude.{Some, None, if◌then◌else◌}
use Rattle.std.specs.Fmt.{decimal}
use Rattle.std.specs.List.{flat_map, filter_map, list_any}
use Rattle.values.specs.Lists.{IsIn, AreDistinct}
use Rattle.glue_words.specs.declared.word.Word.{Word}
use Rattle.glue_words.specs.declared.word.Word.TheVariants as w
use Rattle.glue_words.specs.declared.punct.TheConstants as punct
use Rattle.glue_words.specs.declared.key.TheConstants as key
use Rattle.glue_words.specs.declared.item.Thing.{Thing}
use Rattle.glue_words.specs.declared.item.Thing.TheVariants as thing
use Rattle.glue_words.specs.declared.item.Role.{Role}
use Rattle.glue_words.specs.declared.item.Role.TheVariants as role
use Rattle.glue_words.specs.declared.item.Item.{Item}
use Rattle.glue_words.specs.Names.{is_export_key}
use Rattle.glue_words.specs.Names.{bound_in, hosted_in}
use Rattle.glue_words.specs.Tables.{key_text}
use Rattle.glue_words.specs.Linking.{EachItem}
use Rattle.glue_shared.specs.declared.aux.WasmBindgenAux.{WasmBindgenAux}
use Rattle.glue_shared.specs.declared.import.JsImport.{JsImport}
use Rattle.glue_shared.specs.declared.import.JsImportName.{JsImportName}
use Rattle.glue_shared.specs.declared.import.JsImportName.TheVariants.{Global, Module, LocalModule, InlineJs}
use Rattle.glue_shared.specs.declared.import.JsImportName.TheVariants.{VendorPrefixed}
use Rattle.glue_shared.specs.declared.settings.Settings.{Settings}
use Rattle.glue_shared.specs.Names.{described_hosts}
use Rattle.glue_targets.specs.PublicTree.{PublicPair, public_tree}
use Rattle.glue_targets.specs.Targets.{FixedText, Frame, frame_texts, loading_texts}

-- a declaration is exported where it has the keyword
abbrev pub is_exported : Item → Bool
is_exported item = list_any is_export_key item.words

-- the pairs that an item of a role publishes, where it is exported or not and binds these names
abbrev pub pairs_of : Role → Bool → List (List ℕ) → List PublicPair
pairs_of (role.Declare t) true names = map (λ name. (name ∷ [], t)) names
pairs_of (role.Declare t) false names = []
pairs_of (role.Namespace []) exported names = []
pairs_of (role.Namespace (segment ∷ [])) true names =
    map (λ name. (name ∷ [], thing.Group (segment ∷ []))) names
pairs_of (role.Namespace (segment ∷ [])) false names = []
pairs_of (role.Namespace (segment ∷ next ∷ path)) exported names =
    (segment ∷ next ∷ path, thing.Group (segment ∷ next ∷ path)) ∷ []
pairs_of (role.Publish path t name) exported names = (path, t) ∷ []
pairs_of (role.Assign path t name) exported names = (path, t) ∷ []
pairs_of role.Import exported names = []
pairs_of (role.Foreign number) exported names = []
pairs_of role.Fixed exported names = []
pairs_of (role.Define place) exported names = []
pairs_of (role.Helper name) exported names = []
pairs_of role.Body exported names = []
pairs_of role.Loading exported names = []

-- what an item publishes
abbrev pub published_by : Item → List PublicPair
published_by item = pairs_of item.role (is_exported item) (bound_in item.words)

-- what items publish, with the thing that stands there
abbrev pub published_pairs : List Item → List PublicPair
published_pairs items = flat_map published_by items

-- ---- fixed names

-- the name that a word says in an entry in braces; the keyword `as` says none
abbrev pub said_name : Word → Option (List ℕ)
said_name (w.Key k) = if k == key.AS then None else Some (key_text k)
said_name (w.Text name) = Some name
said_name (w.Bind name) = Some name
said_name (w.Refer name now) = Some name
said_name (w.Host name now) = Some name
said_name (w.LocalBind name) = Some name
said_name (w.Local name) = Some name
said_name (w.Prop name) = Some name
said_name (w.Outer name) = Some name
said_name word = None

-- the name that an entry says last, where it said this one, or none, before
abbrev pub said_after : List (List ℕ) → Option (List ℕ) → List (List ℕ)
said_after names None = names
said_after names (Some name) = name ∷ []

-- where a word stands: outside exports, right behind the keyword `export`, behind a keyword of what is declared there, in
-- the constants that are declared there, at a depth of brackets, or in the braces of a clause, where the entry said this
-- name, or none yet
pub data Place : Type 0 where
  Outside : Place
  Behind : Place
  Naming : Place
  Constants : (depth : ℕ) → Place
  Listed : List (List ℕ) → Place

-- the depth behind punctuation
abbrev pub depth_behind : ℕ → ℕ → ℕ
depth_behind depth p =
    if list_any (λ q. p == q) (punct.OPEN_BRACE ∷ punct.OPEN_PAREN ∷ punct.OPEN_BRACKET ∷ []) then depth + 1
    else (if list_any (λ q. p == q) (punct.CLOSE_BRACE ∷ punct.CLOSE_PAREN ∷ punct.CLOSE_BRACKET ∷ []) then depth - 1
    else depth)

-- where the words go on behind punctuation
abbrev pub behind_punct : Place → ℕ → Place
behind_punct Outside p = Outside
behind_punct Behind p =
    if p == punct.OPEN_BRACE then Listed [] else (if p == punct.SEMICOLON then Outside else Behind)
behind_punct Naming p = if p == punct.SEMICOLON then Outside else Naming
behind_punct (Constants zero) p = if p == punct.SEMICOLON then Outside else Constants (depth_behind zero p)
behind_punct (Constants (suc depth)) p = Constants (depth_behind (suc depth) p)
behind_punct (Listed names) p = if p == punct.CLOSE_BRACE then Outside else Listed []

-- where they go on behind a keyword other than `default` that stands behind `export`
abbrev pub behind_key : ℕ → Place
behind_key k =
    if list_any (λ q. k == q) (key.CONST ∷ key.LET ∷ key.VAR ∷ []) then Constants zero else Naming

-- the names that export clauses and exported declarations publish; `*` stands for those that a whole module gives
abbrev pub clauses_from : Place → List Word → List (List ℕ)
clauses_from place [] = []
clauses_from Outside (w.Key k ∷ words) =
    if k == key.EXPORT then clauses_from Behind words else clauses_from Outside words
clauses_from Outside (word ∷ words) = clauses_from Outside words
clauses_from Behind (w.Key k ∷ words) =
    if k == key.DEFAULT then codes "default" ∷ clauses_from Outside words else clauses_from (behind_key k) words
clauses_from Behind (w.Punct p ∷ words) =
    if p == punct.TIMES then codes "*" ∷ clauses_from Outside words else clauses_from (behind_punct Behind p) words
clauses_from Behind (word ∷ words) = clauses_from Behind words
clauses_from Naming (w.Bind name ∷ words) = name ∷ clauses_from Outside words
clauses_from Naming (w.Punct p ∷ words) = clauses_from (behind_punct Naming p) words
clauses_from Naming (word ∷ words) = clauses_from Naming words
clauses_from (Constants depth) (w.Bind name ∷ words) = name ∷ clauses_from (Constants depth) words
clauses_from (Constants depth) (w.Punct p ∷ words) = clauses_from (behind_punct (Constants depth) p) words
clauses_from (Constants depth) (word ∷ words) = clauses_from (Constants depth) words
clauses_from (Listed names) (w.Punct p ∷ words) = names ++ clauses_from (behind_punct (Listed names) p) words
clauses_from (Listed names) (word ∷ words) = clauses_from (Listed (said_after names (said_name word))) words

-- The names that the words of an item of a role publish beside the tree, where they hold the keyword. What is declared,
-- placed and published for a thing belongs to the tree.
abbrev pub fixed_of : Role → Bool → List Word → List (List ℕ)
fixed_of (role.Declare t) exported words = []
fixed_of (role.Namespace path) exported words = []
fixed_of (role.Publish path t name) exported words = []
fixed_of (role.Assign path t name) exported words = []
fixed_of role false words = []
fixed_of role true words = clauses_from Outside words

-- what an item publishes beside the tree
abbrev pub fixed_by : Item → List (List ℕ)
fixed_by item = fixed_of item.role (is_exported item) item.words

-- what items publish beside the tree
abbrev pub fixed_published : List Item → List (List ℕ)
fixed_published items = flat_map fixed_by items

-- the texts that an item of a role may be, for this frame
abbrev pub texts_of : Settings → Frame → Role → List FixedText
texts_of settings frame role.Fixed = frame_texts settings.target settings.stem frame
texts_of settings frame role.Loading =
    loading_texts settings.target settings.stem frame false ++ loading_texts settings.target settings.stem frame true
texts_of settings frame role = []

-- an item is a fixed text that publishes a name otherwise than by an export clause
pub record IsAssigned (settings : Settings) (items : List Item) (name : List ℕ) : Type 0 where
  pub item : Item
  pub stands : IsIn item items
  pub frame : Frame
  pub text : FixedText
  pub known : IsIn text (texts_of settings frame item.role)
  pub same : item.words ≡ text.words
  pub assigns : IsIn name text.assigns

-- items publish a name beside the public tree
abbrev pub IsFixed : Settings → List Item → List ℕ → Type 0
IsFixed settings items name = IsIn name (fixed_published items) ⊎ IsAssigned settings items name

-- ---- the names that stand for things

-- the role is a declaration of the thing
abbrev pub Declares : Role → Thing → Type 0
Declares (role.Declare t) wanted = t ≡ wanted
Declares (role.Namespace path) wanted = thing.Group path ≡ wanted
Declares role wanted = ⊥

-- a name that stands for a thing is bound by the item that declares that same thing
pub record IsBoundBy (items : List Item) (t : Thing) (name : List ℕ) : Type 0 where
  pub item : Item
  pub stands : IsIn item items
  pub declares : Declares item.role t
  pub binds : IsIn name (bound_in item.words)

-- The entries in the braces of an import line: the name of the module that each takes, and the one that it binds. An
-- entry said this name, or none yet.
abbrev pub entries_from : Bool → List (List ℕ) → List Word → List (List ℕ × List ℕ)
entries_from inside said [] = []
entries_from false said (w.Punct p ∷ words) = entries_from (p == punct.OPEN_BRACE) [] words
entries_from false said (word ∷ words) = entries_from false [] words
entries_from true said (w.Punct p ∷ words) =
    entries_from (not (p == punct.CLOSE_BRACE)) (if p == punct.COLON then said else []) words
entries_from true [] (w.Bind bound ∷ words) = (bound, bound) ∷ entries_from true [] words
entries_from true (name ∷ said) (w.Bind bound ∷ words) = (name, bound) ∷ entries_from true [] words
entries_from true said (word ∷ words) = entries_from true (said_after said (said_name word)) words

-- the text that a word is
abbrev pub text_name : Word → Option (List ℕ)
text_name (w.Text text) = Some text
text_name word = None

-- the item imports a name of the one module that it names under another
pub record Enters (path name bound : List ℕ) (item : Item) : Type 0 where
  pub line : item.role ≡ role.Import
  pub from : filter_map text_name item.words ≡ path ∷ []
  pub entry : IsIn (name, bound) (entries_from false [] item.words)

-- the item is the constant of a name with prefixes: it binds one name, names exactly these of the host, and `undefined` where none of
-- them is there, and has no other text than that, so that it takes nothing of a module
pub record IsVendorConstant (names : List (List ℕ)) (bound : List ℕ) (item : Item) : Type 0 where
  pub line : item.role ≡ role.Import
  pub binds : bound_in item.words ≡ bound ∷ []
  pub only : (name : List ℕ) → IsIn name (hosted_in item.words) → IsIn name (codes "undefined" ∷ names)
  pub all : (name : List ℕ) → IsIn name names → IsIn name (hosted_in item.words)
  pub texts : (text : List ℕ) → IsIn text (filter_map text_name item.words) → text ≡ codes "undefined"

-- the item binds a name for an import
abbrev pub BindsImport : JsImportName → List ℕ → Item → Type 0
BindsImport (Global name) bound item = ⊥
BindsImport (Module path name) bound item = Enters path name bound item
BindsImport (LocalModule path name) bound item = Enters (codes "./snippets/" ++ path) name bound item
BindsImport (InlineJs from index name) bound item =
    Enters (codes "./snippets/" ++ from ++ codes "/inline" ++ decimal index ++ codes ".js") name bound item
BindsImport (VendorPrefixed name prefixes) bound item =
    IsVendorConstant (described_hosts false (VendorPrefixed name prefixes)) bound item

-- the import's own name of the host, where it has one: a name with prefixes has none, since its constant tells which
-- of them is there
abbrev pub own_host : Bool → JsImportName → List (List ℕ)
own_host omitted (VendorPrefixed name prefixes) = []
own_host omitted js = described_hosts omitted js

-- an item binds the name for an import
pub record IsImportBound (items : List Item) (js : JsImportName) (name : List ℕ) : Type 0 where
  pub item : Item
  pub stands : IsIn item items
  pub binds : BindsImport js name item

-- a name stands for the import that a re-export names, which has no fields: an item binds it for that import, or it is
-- that import's own of the host
pub record IsReexported (settings : Settings) (aux : WasmBindgenAux) (items : List Item) (reexport name : List ℕ)
    : Type 0 where
  pub js : JsImport
  pub «typescript» : Bool
  pub described : IsIn (reexport, js, «typescript») aux.reexports
  pub whole : js.fields ≡ []
  pub names : IsImportBound items js.name name ⊎ IsIn name (own_host settings.omit_imports js.name)

-- a name stands for a thing
abbrev pub StandsFor : Settings → WasmBindgenAux → List Item → Thing → List ℕ → Type 0
StandsFor settings aux items (thing.Imported reexport) name = IsReexported settings aux items reexport name
StandsFor settings aux items t name = IsBoundBy items t name

-- the name that an item of a role publishes stands for what it publishes
abbrev pub IsNamed : Settings → WasmBindgenAux → List Item → Role → Type 0
IsNamed settings aux items (role.Publish path t name) = StandsFor settings aux items t name
IsNamed settings aux items (role.Assign path t name) = StandsFor settings aux items t name
IsNamed settings aux items role = Unit {0}

-- Items publish exactly the public tree, each pair once, under names of the things that stand there, and beside it
-- exactly these fixed names.
pub record IsPublished (settings : Settings) (aux : WasmBindgenAux) (fixed : List (List ℕ)) (items : List Item)
    : Type 0 where
  pub only : (pair : PublicPair) → IsIn pair (published_pairs items) → IsIn pair (public_tree settings aux)
  pub all : (pair : PublicPair) → IsIn pair (public_tree settings aux) → IsIn pair (published_pairs items)
  pub once : AreDistinct (published_pairs items)
  pub named : EachItem (λ before item after. IsNamed settings aux (before ++ item ∷ after) item.role) [] items
  pub fixed_only : (name : List ℕ) → IsFixed settings items name → IsIn name fixed
  pub fixed_all : (name : List ℕ) → IsIn name fixed → IsFixed settings items name
