-- The texts without stand-ins are read, their names are those of the table, and they fit where these are there.
use Rattle.std.proofs.Common.{◌≡◌, true, refl}
use Rattle.std.specs.Prelude.{is_ok}
use Rattle.glue_words.specs.Facts.{facts}
use Rattle.glue_words.specs.Linking.{AreAmong}
use Rattle.glue_words.proofs.Belonging.{Context}
use Rattle.glue_words.proofs.Fitting.{Fits}
use Rattle.glue_marked.specs.Marked.{read_marked}
use Rattle.glue_marked.specs.Reads.{words_in}
use Rattle.glue_marked.proofs.Reading.{reading}
use Rattle.glue_helpers.specs.declared.plain.PlainHelper.{PlainHelper}
use Rattle.glue_helpers.specs.declared.plain.PlainHelper.TheVariants as plain
use Rattle.glue_helpers.specs.Plain.{plain_text, plain_item, names_of}
use Rattle.glue_helpers.proofs.Telling.{Tells, Holds, told_holds, told_fits}

pub plain_reads : (helper : PlainHelper) → is_ok (read_marked (plain_text helper)) ≡ true
unfolding reading
plain_reads plain.AssertBigint = refl
plain_reads plain.AssertBool = refl
plain_reads plain.AssertClass = refl
plain_reads plain.AssertNum = refl
plain_reads plain.DebugString = refl
plain_reads plain.GetInheritedDescriptor = refl
plain_reads plain.IsLikeNone = refl
plain_reads plain.LogError = refl
plain_reads plain.NotDefined = refl
plain_reads plain.PanicError = refl
plain_reads plain.TextDecoder = refl
plain_reads plain.BrowserTextDecoder = refl
plain_reads plain.TextEncoder = refl
plain_reads plain.TestedTextEncoder = refl
plain_reads plain.CopyingTextEncoder = refl
plain_reads plain.WasmVectorLen = refl

plain_tells : (helper : PlainHelper) → Tells (words_in (plain_text helper)) (names_of helper)
unfolding reading
plain_tells plain.AssertBigint = refl
plain_tells plain.AssertBool = refl
plain_tells plain.AssertClass = refl
plain_tells plain.AssertNum = refl
plain_tells plain.DebugString = refl
plain_tells plain.GetInheritedDescriptor = refl
plain_tells plain.IsLikeNone = refl
plain_tells plain.LogError = refl
plain_tells plain.NotDefined = refl
plain_tells plain.PanicError = refl
plain_tells plain.TextDecoder = refl
plain_tells plain.BrowserTextDecoder = refl
plain_tells plain.TextEncoder = refl
plain_tells plain.TestedTextEncoder = refl
plain_tells plain.CopyingTextEncoder = refl
plain_tells plain.WasmVectorLen = refl

pub plain_holds : (helper : PlainHelper) → Holds (plain_item helper).words (names_of helper)
plain_holds helper = told_holds (words_in (plain_text helper)) (names_of helper) (plain_tells helper)

pub plain_fits : (c : Context) (helper : PlainHelper) → AreAmong (names_of helper).uses c.declared
    → AreAmong (names_of helper).hosts c.hosts → Fits c (facts (plain_item helper).words)
plain_fits c helper uses hosts =
    told_fits (words_in (plain_text helper)) (names_of helper) (plain_tells helper) c uses hosts (none helper)
  where
    none : (h : PlainHelper) → AreAmong (names_of h).takes c.exports
    none plain.AssertBigint = tt
    none plain.AssertBool = tt
    none plain.AssertClass = tt
    none plain.AssertNum = tt
    none plain.DebugString = tt
    none plain.GetInheritedDescriptor = tt
    none plain.IsLikeNone = tt
    none plain.LogError = tt
    none plain.NotDefined = tt
    none plain.PanicError = tt
    none plain.TextDecoder = tt
    none plain.BrowserTextDecoder = tt
    none plain.TextEncoder = tt
    none plain.TestedTextEncoder = tt
    none plain.CopyingTextEncoder = tt
    none plain.WasmVectorLen = tt
