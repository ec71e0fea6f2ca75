-- Names of helpers that go by the place of a memory or of a table, and the elements of arrays.
use Rattle.std.specs.Prelude.{ℕ, List, ◌++◌, codes}
use Rattle.std.specs.Fmt.{decimal}
use Rattle.glue_words.specs.Ident.{numbered}
use Rattle.glue_helpers.specs.declared.element.ElementKind.{ElementKind}
use Rattle.glue_helpers.specs.declared.element.ElementKind.TheVariants as element
use Rattle.glue_helpers.specs.declared.element.Width.{Width}
use Rattle.glue_helpers.specs.declared.element.Width.TheVariants as width

-- ---- elements

-- the host's class of arrays of such elements
abbrev pub element_class : ElementKind → List ℕ
element_class element.I8 = codes "Int8Array"
element_class element.U8 = codes "Uint8Array"
element_class element.I16 = codes "Int16Array"
element_class element.U16 = codes "Uint16Array"
element_class element.I32 = codes "Int32Array"
element_class element.U32 = codes "Uint32Array"
element_class element.I64 = codes "BigInt64Array"
element_class element.U64 = codes "BigUint64Array"

-- what the names of helpers call them
abbrev pub element_letters : ElementKind → List ℕ
element_letters element.I8 = codes "I8"
element_letters element.U8 = codes "U8"
element_letters element.I16 = codes "I16"
element_letters element.U16 = codes "U16"
element_letters element.I32 = codes "I32"
element_letters element.U32 = codes "U32"
element_letters element.I64 = codes "I64"
element_letters element.U64 = codes "U64"

-- how many bytes one takes
abbrev pub element_size : ElementKind → ℕ
element_size element.I8 = 1
element_size element.U8 = 1
element_size element.I16 = 2
element_size element.U16 = 2
element_size element.I32 = 4
element_size element.U32 = 4
element_size element.I64 = 8
element_size element.U64 = 8

-- the element of so many bits without a sign
abbrev pub unsigned_element : Width → ElementKind
unsigned_element width.Bits8 = element.U8
unsigned_element width.Bits16 = element.U16
unsigned_element width.Bits32 = element.U32
unsigned_element width.Bits64 = element.U64

-- the number of bits in digits
abbrev pub width_digits : Width → List ℕ
width_digits width.Bits8 = codes "8"
width_digits width.Bits16 = codes "16"
width_digits width.Bits32 = codes "32"
width_digits width.Bits64 = codes "64"

-- ---- names by the place of a memory

-- the helper that gives a memory as an array, and the variable that keeps it
abbrev pub array_view_name : ElementKind → ℕ → List ℕ
array_view_name e memory = codes "get" ++ (element_class e ++ (codes "Memory" ++ decimal memory))

abbrev pub array_cache_name : ElementKind → ℕ → List ℕ
array_cache_name e memory = codes "cached" ++ (element_class e ++ (codes "Memory" ++ decimal memory))

-- the same of a view of numbers
abbrev pub data_view_name : ℕ → List ℕ
data_view_name memory = numbered (codes "getDataViewMemory") memory

abbrev pub data_cache_name : ℕ → List ℕ
data_cache_name memory = numbered (codes "cachedDataViewMemory") memory

-- the helpers that read and write strings, arrays, and arrays of values
abbrev pub get_string_name : ℕ → List ℕ
get_string_name memory = numbered (codes "getStringFromWasm") memory

abbrev pub pass_string_name : ℕ → List ℕ
pass_string_name memory = numbered (codes "passStringToWasm") memory

abbrev pub get_array_name : ElementKind → ℕ → List ℕ
get_array_name e memory = codes "getArray" ++ (element_letters e ++ (codes "FromWasm" ++ decimal memory))

abbrev pub pass_array_name : Width → ℕ → List ℕ
pass_array_name w memory = codes "passArray" ++ (width_digits w ++ (codes "ToWasm" ++ decimal memory))

abbrev pub get_values_name : ℕ → List ℕ
get_values_name memory = numbered (codes "getArrayJsValueFromWasm") memory

abbrev pub pass_values_name : ℕ → List ℕ
pass_values_name memory = numbered (codes "passArrayJsValueToWasm") memory

-- ---- names by the place of a table

-- the helpers that add a value to a table of references, look one up, and take one out
abbrev pub add_name : ℕ → List ℕ
add_name table = numbered (codes "addToExternrefTable") table

abbrev pub get_name : ℕ → List ℕ
get_name table = numbered (codes "getFromExternrefTable") table

abbrev pub take_name : ℕ → List ℕ
take_name table = numbered (codes "takeFromExternrefTable") table
