-- The names of a module's functions, demangled and numbered.
use Rattle.std.specs.Prelude.{◌≡◌, ℕ, zero, suc, ◌+◌, List, [], ◌∷◌, ◌++◌, map, codes, Option, Some, None, slice_index_or, slice_set, if◌then◌else◌}
use Rattle.std.specs.Str.{bytes_eq}
use Rattle.std.specs.Fmt.{decimal}
use Rattle.demangle_core.specs.Symbol.{demangled}
use Rattle.wasm_core.specs.Contents.{Contents}
use Rattle.wasm_core.specs.Edits.{func_named}
use Rattle.wasm_core.specs.declared.types.Func.{Func}

-- the path that a name shows, where there is one that is a symbol
abbrev pub path_of_name : Option (List ℕ) → Option (List ℕ)
path_of_name None = None
path_of_name (Some name) = demangled name

-- the path that the name of a function shows
abbrev pub path_of : Option Func → Option (List ℕ)
path_of None = None
path_of (Some func) = path_of_name func.name

-- how often a text stands in a list
abbrev pub times : List ℕ → List (List ℕ) → ℕ
times text [] = 0
times text (other ∷ texts) = (if bytes_eq other text then 1 else 0) + times text texts

-- a path, with the number of its earlier uses in brackets where there are some
abbrev pub numbered : List ℕ → ℕ → List ℕ
numbered path zero = path
numbered path (suc uses) = path ++ (codes "[" ++ (decimal (suc uses) ++ codes "]"))

-- a function under the path that its name shows, and the paths that were given by then
abbrev pub named_by : List (List ℕ) → Option Func → Option (List ℕ) → Option Func × List (List ℕ)
named_by given func None = (func, given)
named_by given func (Some path) = (func_named (numbered path (times path given)) (Some func), given ++ path ∷ [])

abbrev pub step : List (List ℕ) → Option Func → Option Func × List (List ℕ)
step given func = named_by given func (path_of func)

-- functions under such names, where these paths were given before
abbrev pub renamed : List (List ℕ) → List (Option Func) → List (Option Func)
renamed given [] = []
renamed given (func ∷ funcs) = (step given func).0 ∷ renamed (step given func).1 funcs

-- a module with its functions under such names
abbrev pub with_demangled_names : Contents → Contents
with_demangled_names m = record m { funcs = renamed [] m.funcs }

-- a function without its name
abbrev pub without_name : Option Func → Option Func
without_name None = None
without_name (Some func) = Some (record func { name = None })

-- a module whose functions have no names
abbrev pub without_names : Contents → Contents
without_names m = record m { funcs = map without_name m.funcs }

-- the function at a place was named, and these paths are given by then
pub record IsStep (place : ℕ) (given more : List (List ℕ)) (m n : Contents) : Type 0 where
  pub named : n ≡ record m { funcs = slice_set m.funcs place (step given (slice_index_or m.funcs place None)).0 }
  pub uses : more ≡ (step given (slice_index_or m.funcs place None)).1
