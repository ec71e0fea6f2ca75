-- Helpers without stand-ins: their keys, texts and names.
use Rattle.std.specs.Prelude.{ℕ, List, [], ◌∷◌, codes}
use Rattle.glue_words.specs.declared.item.Item.{Item}
use Rattle.glue_marked.specs.Reads.{words_in}
use Rattle.glue_helpers.specs.declared.asserts.TheConstants as asserts
use Rattle.glue_helpers.specs.declared.errors.TheConstants as errors
use Rattle.glue_helpers.specs.declared.objects.TheConstants as objects
use Rattle.glue_helpers.specs.declared.strings.TheConstants as strings
use Rattle.glue_helpers.specs.declared.plain.PlainHelper.{PlainHelper}
use Rattle.glue_helpers.specs.declared.plain.PlainHelper.TheVariants as plain
use Rattle.glue_helpers.specs.Items.{helper_item}
use Rattle.glue_helpers.specs.TextNames.{TextNames, plain_names}

-- the key, which the forms of a helper share
abbrev pub plain_key : PlainHelper → List ℕ
plain_key plain.AssertBigint = codes "assert_bigint"
plain_key plain.AssertBool = codes "assert_bool"
plain_key plain.AssertClass = codes "assert_class"
plain_key plain.AssertNum = codes "assert_num"
plain_key plain.DebugString = codes "debug_string"
plain_key plain.GetInheritedDescriptor = codes "get_inherited_descriptor"
plain_key plain.IsLikeNone = codes "is_like_none"
plain_key plain.LogError = codes "log_error"
plain_key plain.NotDefined = codes "not_defined"
plain_key plain.PanicError = codes "panic_error"
plain_key plain.TextDecoder = codes "text_decoder"
plain_key plain.BrowserTextDecoder = codes "text_decoder"
plain_key plain.TextEncoder = codes "text_encoder"
plain_key plain.TestedTextEncoder = codes "text_encoder"
plain_key plain.CopyingTextEncoder = codes "text_encoder"
plain_key plain.WasmVectorLen = codes "wasm_vector_len"

-- the text of a form
abbrev pub plain_text : PlainHelper → List ℕ
plain_text plain.AssertBigint = asserts.ASSERT_BIGINT.now
plain_text plain.AssertBool = asserts.ASSERT_BOOL.now
plain_text plain.AssertClass = asserts.ASSERT_CLASS.now
plain_text plain.AssertNum = asserts.ASSERT_NUM.now
plain_text plain.DebugString = objects.DEBUG_STRING.now
plain_text plain.GetInheritedDescriptor = objects.GET_INHERITED_DESCRIPTOR.now
plain_text plain.IsLikeNone = asserts.IS_LIKE_NONE.now
plain_text plain.LogError = errors.LOG_ERROR.now
plain_text plain.NotDefined = asserts.NOT_DEFINED.now
plain_text plain.PanicError = errors.PANIC_ERROR.now
plain_text plain.TextDecoder = strings.TEXT_DECODER.now
plain_text plain.BrowserTextDecoder = strings.BROWSER_TEXT_DECODER.now
plain_text plain.TextEncoder = strings.TEXT_ENCODER.now
plain_text plain.TestedTextEncoder = strings.TESTED_TEXT_ENCODER.now
plain_text plain.CopyingTextEncoder = strings.COPYING_TEXT_ENCODER.now
plain_text plain.WasmVectorLen = strings.WASM_VECTOR_LEN.now

-- the item of a form
abbrev pub plain_item : PlainHelper → Item
plain_item helper = helper_item (plain_key helper) (words_in (plain_text helper))

-- the names of a form: those that it declares, those that it uses, and those of the host
abbrev pub names_of : PlainHelper → TextNames
names_of plain.AssertBigint = plain_names (codes "_assertBigInt" ∷ []) [] (codes "Error" ∷ [])
names_of plain.AssertBool = plain_names (codes "_assertBoolean" ∷ []) [] (codes "Error" ∷ [])
names_of plain.AssertClass = plain_names (codes "_assertClass" ∷ []) [] (codes "Error" ∷ [])
names_of plain.AssertNum = plain_names (codes "_assertNum" ∷ []) [] (codes "Error" ∷ [])
names_of plain.DebugString =
    plain_names (codes "debugString" ∷ []) (codes "debugString" ∷ [])
    (codes "Array" ∷ codes "Error" ∷ codes "toString" ∷ codes "undefined" ∷ codes "JSON" ∷ [])
names_of plain.GetInheritedDescriptor =
    plain_names (codes "GetOwnOrInheritedPropertyDescriptor" ∷ []) [] (codes "Object" ∷ [])
names_of plain.IsLikeNone = plain_names (codes "isLikeNone" ∷ []) [] (codes "undefined" ∷ [])
names_of plain.LogError = plain_names (codes "logError" ∷ []) [] (codes "Error" ∷ codes "console" ∷ [])
names_of plain.NotDefined = plain_names (codes "notDefined" ∷ []) [] (codes "Error" ∷ [])
names_of plain.PanicError =
    plain_names (codes "PanicError" ∷ []) (codes "PanicError" ∷ []) (codes "Error" ∷ codes "Object" ∷ [])
names_of plain.TextDecoder =
    plain_names (codes "cachedTextDecoder" ∷ codes "decodeText" ∷ []) (codes "cachedTextDecoder" ∷ [])
    (codes "TextDecoder" ∷ [])
names_of plain.BrowserTextDecoder =
    plain_names
    (codes "cachedTextDecoder" ∷ codes "MAX_SAFARI_DECODE_BYTES" ∷ codes "numBytesDecoded" ∷ codes "decodeText" ∷ [])
    (codes "MAX_SAFARI_DECODE_BYTES" ∷ codes "numBytesDecoded" ∷ codes "cachedTextDecoder" ∷ [])
    (codes "TextDecoder" ∷ [])
names_of plain.TextEncoder = plain_names (codes "cachedTextEncoder" ∷ []) [] (codes "TextEncoder" ∷ [])
names_of plain.TestedTextEncoder =
    plain_names (codes "cachedTextEncoder" ∷ []) (codes "cachedTextEncoder" ∷ []) (codes "TextEncoder" ∷ [])
names_of plain.CopyingTextEncoder =
    plain_names (codes "cachedTextEncoder" ∷ []) (codes "cachedTextEncoder" ∷ []) (codes "TextEncoder" ∷ [])
names_of plain.WasmVectorLen = plain_names (codes "WASM_VECTOR_LEN" ∷ []) [] []
