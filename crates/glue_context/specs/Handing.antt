-- What becomes of what the imports throw that the glue file defines by functions of adapters: the module gets it as it is, or it is caught by
-- `handleError` and handed to the module.
use Rattle.std.specs.Prelude.{ℕ, pos, Bool, true, false, ◌&&◌, ◌==◌, List, [], ◌∷◌, ◌++◌, codes, length, Option, Some, None, if◌then◌else◌}
use Rattle.std.specs.List.{list_all}
use Rattle.wasm_core.specs.Contents.{Contents}
use Rattle.wasm_core.specs.types.FuncType.{FuncType}
use Rattle.wasm_core.specs.declared.types.ImportKind.{ImportKind}
use Rattle.wasm_core.specs.declared.types.ImportKind.TheVariants as import_kinds
use Rattle.wasm_core.specs.types.ValType.{ValType}
use Rattle.wasm_core.specs.types.ValType.TheVariants as types
use Rattle.glue_words.specs.declared.word.Word.{Word}
use Rattle.glue_words.specs.declared.word.Word.TheVariants as w
use Rattle.glue_words.specs.declared.item.Item.{Item}
use Rattle.glue_words.specs.declared.item.Role.TheVariants.{Define}
use Rattle.glue_words.specs.declared.key.TheConstants as key
use Rattle.glue_words.specs.declared.punct.TheConstants as punct
use Rattle.glue_words.specs.Words.{space, line_feed}
use Rattle.glue_shared.specs.declared.description.Lowered.{Lowered}
use Rattle.glue_steps.specs.Resolving.{type_of}
use Rattle.printed_adapters.specs.Caught.{is_caught}
use Rattle.glue_context.specs.declared.handing.Throws.{Throws}
use Rattle.glue_context.specs.declared.handing.Throws.TheVariants as throws

-- ---- which of these

abbrev pub is_i64 : ValType → Bool
is_i64 types.I64 = true
is_i64 other = false

-- a function has one result, of 64 bits
abbrev pub is_wide : Option FuncType → Bool
is_wide None = false
is_wide (Some ty) = length ty.results == 1 && list_all is_i64 ty.results

-- an import of this kind brings in such a function
abbrev pub gives_wide : Contents → ImportKind → Bool
gives_wide m (import_kinds.Func id) = is_wide (type_of m id.0)
gives_wide m other = false

-- what becomes of what the import throws that an adapter calls, where the adapter stands for an import of this kind
abbrev pub throws_of : Lowered → (adapter : ℕ) → ImportKind → Throws
throws_of l id kind = if is_caught l id then throws.Handed (gives_wide l.«module» kind) else throws.Left

-- ---- the definition

-- the names that stand around the adapter's function
abbrev pub names_around : Throws → List (List ℕ)
names_around throws.Left = []
names_around (throws.Handed wide) = codes "handleError" ∷ []

-- where it is caught, `() { return handleError(function ` stands before the adapter's function
abbrev pub caller_front : Throws → List Word
caller_front throws.Left = []
caller_front (throws.Handed wide) =
    w.Punct punct.OPEN_PAREN ∷ w.Punct punct.CLOSE_PAREN ∷ space ∷ w.Punct punct.OPEN_BRACE ∷ space ∷ w.Key key.RETURN ∷ space
    ∷ w.Refer (codes "handleError") false ∷ w.Punct punct.OPEN_PAREN ∷ w.Key key.FUNCTION ∷ space ∷ []

-- ` ?? 0n`, where the result has 64 bits: `handleError` answers nothing for what it caught, of which the module makes no number of 64 bits
abbrev pub fallback : (wide : Bool) → List Word
fallback true = space ∷ w.Punct punct.COALESCE ∷ space ∷ w.Num (pos 0) ∷ w.Key key.N ∷ []
fallback false = []

-- `, arguments); }` behind it
abbrev pub caller_back : Throws → List Word
caller_back throws.Left = []
caller_back (throws.Handed wide) =
    w.Punct punct.COMMA ∷ space ∷ w.Key key.ARGUMENTS ∷ w.Punct punct.CLOSE_PAREN
    ∷ (fallback wide ++ w.Punct punct.SEMICOLON ∷ space ∷ w.Punct punct.CLOSE_BRACE ∷ [])

-- `name: function`, and what stands before the adapter's function
abbrev pub definition_front : Throws → List ℕ → List Word
definition_front t name = w.Outer name ∷ w.Punct punct.COLON ∷ space ∷ w.Key key.FUNCTION ∷ caller_front t

abbrev pub definition_back : Throws → List Word
definition_back t = caller_back t ++ w.Punct punct.COMMA ∷ line_feed ∷ []

-- `name: function(..) {..},` or `name: function() { return handleError(function (..) {..}, arguments); },`
abbrev pub define_item : Throws → ℕ → List ℕ → List Word → Item
define_item t place name function = record { role = Define place; words = definition_front t name ++ (function ++ definition_back t) }
