-- The one spelling of a list and of a name that is written.
use Rattle.std.specs.Prelude.{ℕ, List, ◌++◌, length}
use Rattle.std.specs.List.{flat_map}
use Rattle.wasm_bytes.specs.Numbers.{number_bytes}

-- a count and the entries
unfoldable pub list_bytes : {A : Type 0} → (A → List ℕ) → List A → List ℕ
list_bytes entry xs = number_bytes (length xs) ++ flat_map entry xs

-- a length and the bytes of a text
unfoldable pub name_bytes : List ℕ → List ℕ
name_bytes text = number_bytes (length text) ++ text

-- content behind its length
unfoldable pub framed_bytes : List ℕ → List ℕ
framed_bytes content = number_bytes (length content) ++ content
