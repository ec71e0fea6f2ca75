-- The items that define own imports off the bundler: by the function of an adapter, by a property of a module's name, or, of a memory, by the one
-- that is handed in or a new one.
use Rattle.std.specs.Prelude.{◌≡◌, ℕ, pos, Bool, true, false, not, is_some, List, [], ◌∷◌, ◌++◌, codes, Option, Some, None}
use Rattle.std.specs.List.{flat_map, list_any}
use Rattle.wasm_core.specs.ids.ImportId.{ImportId}
use Rattle.wasm_core.specs.declared.types.Import.{Import}
use Rattle.wasm_core.specs.declared.types.Memory.{Memory}
use Rattle.wasm_core.specs.types.Limits.{Limits}
use Rattle.glue_words.specs.declared.word.Word.{Word}
use Rattle.glue_words.specs.declared.word.Word.TheVariants as w
use Rattle.glue_words.specs.declared.item.Item.{Item}
use Rattle.glue_words.specs.declared.item.Role.TheVariants.{Define}
use Rattle.glue_words.specs.declared.key.TheConstants as key
use Rattle.glue_words.specs.declared.punct.TheConstants as punct
use Rattle.glue_words.specs.Words.{space, line_feed, text_of}
use Rattle.glue_tree.specs.declared.tree.JsFunction.{JsFunction}
use Rattle.glue_imports.specs.declared.part.Part.{Part}
use Rattle.glue_imports.specs.Definitions.{function_or_throw}
use Rattle.glue_imports.specs.Roots.{root}
use Rattle.glue_operands.specs.Spelling.{parts_words}
use Rattle.glue_shared.specs.declared.description.Lowered.{Lowered}
use Rattle.glue_shared.specs.declared.import.JsImport.{JsImport}
use Rattle.glue_shared.specs.declared.name_map.NameMap.{NameMap}
use Rattle.glue_shared.specs.declared.settings.Settings.{Settings}
use Rattle.glue_shared.specs.Names.{adapter_for, handed_part, own_imports}
use Rattle.glue_steps.specs.Resolving.{entry_at, adapter_steps}
use Rattle.glue_check.specs.Unbuilt.{is_plain_memory, memory_of}
use Rattle.glue_context.specs.Functions.{IsFunctionOf, usual_form}
use Rattle.glue_context.specs.Handing.{define_item, names_around, throws_of}

-- `name: `, and what stands behind a value
abbrev pub value_front : List ℕ → List Word
value_front name = w.Outer name ∷ w.Punct punct.COLON ∷ space ∷ []

abbrev pub value_back : List Word
value_back = w.Punct punct.COMMA ∷ line_feed ∷ []

-- `name: value,`
abbrev pub value_item : ℕ → List ℕ → List Word → Item
value_item place name value = record { role = Define place; words = value_front name ++ (value ++ value_back) }

-- ---- by a property of a module's name

-- the words of parts that go by neither locals nor operands
abbrev pub spelled : List Part → List Word
spelled parts = parts_words parts [] []

-- the text of words
abbrev pub words_text : List Word → List ℕ
words_text words = flat_map text_of words

-- the text of the value that an import names
abbrev pub value_text : NameMap → JsImport → List ℕ
value_text m js = words_text (spelled (root m js))

-- `typeof N == "function" ? N : notDefined("N")`
abbrev pub part_words : NameMap → JsImport → List Word
part_words m js = spelled (function_or_throw m js (value_text m js))

-- ---- by a memory

-- a limit: a number, with `n` behind it where addresses have 64 bits
abbrev pub limit_words : (wide : Bool) → ℕ → List Word
limit_words true limit = w.Num (pos limit) ∷ w.Key key.N ∷ []
limit_words false limit = w.Num (pos limit) ∷ []

-- `memory || new WebAssembly.Memory({initial:`
abbrev pub memory_front : List Word
memory_front =
    w.Refer (codes "memory") false ∷ space ∷ w.Punct punct.OR ∷ space ∷ w.Key key.NEW ∷ space ∷ w.Host (codes "WebAssembly") false
    ∷ w.Punct punct.DOT ∷ w.Prop (codes "Memory") ∷ w.Punct punct.OPEN_PAREN ∷ w.Punct punct.OPEN_BRACE
    ∷ w.Prop (codes "initial") ∷ w.Punct punct.COLON ∷ []

-- `,maximum:n`, where there is a most
abbrev pub maximum_words : (wide : Bool) → Option ℕ → List Word
maximum_words wide None = []
maximum_words wide (Some most) = w.Punct punct.COMMA ∷ w.Prop (codes "maximum") ∷ w.Punct punct.COLON ∷ limit_words wide most

-- `,address:"i64"`, where addresses have 64 bits
abbrev pub address_words : (wide : Bool) → List Word
address_words true = w.Punct punct.COMMA ∷ w.Prop (codes "address") ∷ w.Punct punct.COLON ∷ w.Text (codes "i64") ∷ []
address_words false = []

-- `})`
abbrev pub memory_back : List Word
memory_back = w.Punct punct.CLOSE_BRACE ∷ w.Punct punct.CLOSE_PAREN ∷ []

-- `memory || new WebAssembly.Memory({initial:n,maximum:m})`, off the bundler
abbrev pub memory_words : Limits → List Word
memory_words limits =
    memory_front ++ (limit_words limits.wide limits.min ++ (maximum_words limits.wide limits.max ++ (address_words limits.wide ++ memory_back)))

-- ---- which of these

-- the item defines the import at a place, which stands, by the function of its adapter
pub record IsFunctionItem (s : Settings) (m : NameMap) (l : Lowered) (place adapter : ℕ) (item : Item) : Type 0 where
  pub «import» : Import
  pub stands : entry_at l.«module».imports place ≡ Some «import»
  pub function : JsFunction
  pub of_adapter : IsFunctionOf s m l adapter usual_form [] (names_around (throws_of l adapter «import».kind)) function
  pub is : item ≡ define_item (throws_of l adapter «import».kind) place «import».name function.words

-- the item defines it by this property of a module's name
pub record IsPartItem (m : NameMap) (l : Lowered) (place : ℕ) (js : JsImport) (item : Item) : Type 0 where
  pub «import» : Import
  pub stands : entry_at l.«module».imports place ≡ Some «import»
  pub is : item ≡ value_item place «import».name (part_words m js)

-- the item defines it by a memory with the limits of the one that it brings in
pub record IsMemoryItem (l : Lowered) (place : ℕ) (item : Item) : Type 0 where
  pub «import» : Import
  pub stands : entry_at l.«module».imports place ≡ Some «import»
  pub memory : Memory
  pub brought : memory_of l.«module» «import».kind ≡ Some memory
  pub is : item ≡ value_item place «import».name (memory_words memory.limits)

-- by the property that the adapter does nothing but hand on to, where there is one, and else by its function
abbrev pub IsAdapterItem : Settings → NameMap → Lowered → (place adapter : ℕ) → Item → Option JsImport → Type 0
IsAdapterItem s m l place adapter item (Some js) = IsPartItem m l place js item
IsAdapterItem s m l place adapter item None = IsFunctionItem s m l place adapter item

-- by an adapter, where one stands for it, and else by a memory
abbrev pub IsDefinedBy : Settings → NameMap → Lowered → ℕ → Item → Option ℕ → Type 0
IsDefinedBy s m l place item (Some adapter) = IsAdapterItem s m l place adapter item (handed_part s l.wit l.aux adapter)
IsDefinedBy s m l place item None = IsMemoryItem l place item

-- the item defines the import at a place
abbrev pub IsDefineItem : Settings → NameMap → Lowered → ℕ → Item → Type 0
IsDefineItem s m l place item = IsDefinedBy s m l place item (adapter_for l.wit.implements place)

-- an import can be defined: its adapter has steps, or it brings in a memory whose definition is built
abbrev pub is_definable_by : Settings → NameMap → Lowered → Import → Option ℕ → Bool
is_definable_by s m l i (Some adapter) = is_some (adapter_steps s m l adapter)
is_definable_by s m l i None = is_plain_memory (memory_of l.«module» i.kind)

abbrev pub is_definable_import : Settings → NameMap → Lowered → ℕ → Option Import → Bool
is_definable_import s m l place None = false
is_definable_import s m l place (Some i) = is_definable_by s m l i (adapter_for l.wit.implements place)

-- an import stands, and can be defined
abbrev pub is_definable : Settings → NameMap → Lowered → ℕ → Bool
is_definable s m l place = is_definable_import s m l place (entry_at l.«module».imports place)

-- ---- what the frame takes

-- none of these pairs gives the import at a place an adapter
abbrev pub is_unpaired : List (ImportId × ℕ) → ℕ → Bool
is_unpaired pairs place = not (is_some (adapter_for pairs place))

-- no adapter stands for one of the own imports: it is the memory that may be handed in
abbrev pub takes_memory : Settings → Lowered → Bool
takes_memory s l = list_any (is_unpaired l.wit.implements) (own_imports s l.«module» l.wit l.aux)
