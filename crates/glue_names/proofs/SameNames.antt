-- Entries of one name are those that ask for a word that an earlier one told.
use Rattle.std.proofs.Common.{◌≡◌, ℕ, List, Bool, true, false, Option, Some, None, ◌||◌, refl}
use Rattle.std.specs.Str.{bytes_eq}
use Rattle.std.specs.FinSet as set
use Rattle.wasm_core.specs.entries.Export.{Export}
use Rattle.glue_faults.specs.Clash.{first_clash, first_told}
use Rattle.glue_faults.proofs.Clashes.{ByWords, first_told_is}
use Rattle.glue_names.specs.Naming.{same_export, export_words, one_word}

or_false : (a : Bool) → ((a || false) || false) ≡ a
or_false true = refl
or_false false = refl

export_by_name : ByWords same_export export_words export_words
export_by_name None None = refl
export_by_name None (Some e) = refl
export_by_name (Some e) None = refl
export_by_name (Some a) (Some b) = or_false (bytes_eq a.name b.name)

pub first_same_export : (exports : List (Option Export)) → first_told export_words export_words set.empty exports ≡ first_clash same_export exports
first_same_export exports = first_told_is same_export export_words export_words export_by_name exports

word_by_name : ByWords bytes_eq one_word one_word
word_by_name a b = or_false (bytes_eq a b)

pub first_same_name : (names : List (List ℕ)) → first_told one_word one_word set.empty names ≡ first_clash bytes_eq names
first_same_name names = first_told_is bytes_eq one_word one_word word_by_name names
