-- The names of helpers that go by the place of a memory or a table are identifiers.
use Rattle.std.proofs.Common.{◌≡◌, ℕ, List, [], ◌∷◌, refl, ap, ◌∙◌, Bool, true}
use Rattle.std.specs.Prelude.{codes, ◌&&◌}
use Rattle.std.specs.List.{list_all}
use Rattle.std.specs.Str.{is_utf8}
use Rattle.std.proofs.lemmas.Str.{IsUtf8-from_is_utf8}
use Rattle.glue_words.specs.Ident.{is_ident, numbered}
use Rattle.glue_words.proofs.Idents.{is_ascii_ident, ascii_ident, numbered_ident}
use Rattle.glue_words.proofs.Fitting.{the_module}
use Rattle.glue_marked.proofs.Reading.{reading}
use Rattle.glue_marked.proofs.ShippedFacts.{none_in}
use Rattle.glue_helpers.specs.declared.element.ElementKind.{ElementKind}
use Rattle.glue_helpers.specs.declared.element.ElementKind.TheVariants as element
use Rattle.glue_helpers.specs.declared.element.Width.{Width}
use Rattle.glue_helpers.specs.declared.element.Width.TheVariants as width
use Rattle.glue_helpers.specs.Numbered.{element_class}
use Rattle.glue_helpers.specs.Numbered.{array_view_name, array_cache_name, get_array_name, pass_array_name}

-- an ASCII identifier with a number is an identifier
pub numbered_name : (name : List ℕ) (number : ℕ) → is_utf8 name ≡ true → is_ascii_ident name ≡ true
    → is_ident (numbered name number) ≡ true
numbered_name name number text ident =
    numbered_ident name number (IsUtf8-from_is_utf8 name text) (ascii_ident name ident)

-- one identifier before others
pub ident_before : (name : List ℕ) (names : List (List ℕ)) → is_ident name ≡ true → list_all is_ident names ≡ true
    → list_all is_ident (name ∷ names) ≡ true
ident_before name names h k = ap (λ (b : Bool). b && list_all is_ident names) h ∙ k

pub array_view_ident : (e : ElementKind) (memory : ℕ) → is_ident (array_view_name e memory) ≡ true
unfolding reading
array_view_ident element.I8 memory = numbered_name (codes "getInt8ArrayMemory") memory refl refl
array_view_ident element.U8 memory = numbered_name (codes "getUint8ArrayMemory") memory refl refl
array_view_ident element.I16 memory = numbered_name (codes "getInt16ArrayMemory") memory refl refl
array_view_ident element.U16 memory = numbered_name (codes "getUint16ArrayMemory") memory refl refl
array_view_ident element.I32 memory = numbered_name (codes "getInt32ArrayMemory") memory refl refl
array_view_ident element.U32 memory = numbered_name (codes "getUint32ArrayMemory") memory refl refl
array_view_ident element.I64 memory = numbered_name (codes "getBigInt64ArrayMemory") memory refl refl
array_view_ident element.U64 memory = numbered_name (codes "getBigUint64ArrayMemory") memory refl refl

pub array_cache_ident : (e : ElementKind) (memory : ℕ) → is_ident (array_cache_name e memory) ≡ true
unfolding reading
array_cache_ident element.I8 memory = numbered_name (codes "cachedInt8ArrayMemory") memory refl refl
array_cache_ident element.U8 memory = numbered_name (codes "cachedUint8ArrayMemory") memory refl refl
array_cache_ident element.I16 memory = numbered_name (codes "cachedInt16ArrayMemory") memory refl refl
array_cache_ident element.U16 memory = numbered_name (codes "cachedUint16ArrayMemory") memory refl refl
array_cache_ident element.I32 memory = numbered_name (codes "cachedInt32ArrayMemory") memory refl refl
array_cache_ident element.U32 memory = numbered_name (codes "cachedUint32ArrayMemory") memory refl refl
array_cache_ident element.I64 memory = numbered_name (codes "cachedBigInt64ArrayMemory") memory refl refl
array_cache_ident element.U64 memory = numbered_name (codes "cachedBigUint64ArrayMemory") memory refl refl

pub get_array_ident : (e : ElementKind) (memory : ℕ) → is_ident (get_array_name e memory) ≡ true
unfolding reading
get_array_ident element.I8 memory = numbered_name (codes "getArrayI8FromWasm") memory refl refl
get_array_ident element.U8 memory = numbered_name (codes "getArrayU8FromWasm") memory refl refl
get_array_ident element.I16 memory = numbered_name (codes "getArrayI16FromWasm") memory refl refl
get_array_ident element.U16 memory = numbered_name (codes "getArrayU16FromWasm") memory refl refl
get_array_ident element.I32 memory = numbered_name (codes "getArrayI32FromWasm") memory refl refl
get_array_ident element.U32 memory = numbered_name (codes "getArrayU32FromWasm") memory refl refl
get_array_ident element.I64 memory = numbered_name (codes "getArrayI64FromWasm") memory refl refl
get_array_ident element.U64 memory = numbered_name (codes "getArrayU64FromWasm") memory refl refl

pub pass_array_ident : (e : Width) (memory : ℕ) → is_ident (pass_array_name e memory) ≡ true
unfolding reading
pass_array_ident width.Bits8 memory = numbered_name (codes "passArray8ToWasm") memory refl refl
pass_array_ident width.Bits16 memory = numbered_name (codes "passArray16ToWasm") memory refl refl
pass_array_ident width.Bits32 memory = numbered_name (codes "passArray32ToWasm") memory refl refl
pass_array_ident width.Bits64 memory = numbered_name (codes "passArray64ToWasm") memory refl refl

-- the classes of arrays are identifiers
pub class_ident : (e : ElementKind) → is_ident (element_class e) ≡ true
unfolding reading
class_ident element.I8 = ascii_ident (codes "Int8Array") refl
class_ident element.U8 = ascii_ident (codes "Uint8Array") refl
class_ident element.I16 = ascii_ident (codes "Int16Array") refl
class_ident element.U16 = ascii_ident (codes "Uint16Array") refl
class_ident element.I32 = ascii_ident (codes "Int32Array") refl
class_ident element.U32 = ascii_ident (codes "Uint32Array") refl
class_ident element.I64 = ascii_ident (codes "BigInt64Array") refl
class_ident element.U64 = ascii_ident (codes "BigUint64Array") refl

-- none is `wasm`
pub class_away : (e : ElementKind) → none_in (element_class e ∷ []) the_module ≡ true
class_away element.I8 = refl
class_away element.U8 = refl
class_away element.I16 = refl
class_away element.U16 = refl
class_away element.I32 = refl
class_away element.U32 = refl
class_away element.I64 = refl
class_away element.U64 = refl
