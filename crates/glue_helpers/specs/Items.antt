-- The items of helpers.
use Rattle.std.specs.Prelude.{ℕ, ℤ, List, [], ◌∷◌, codes}
use Rattle.glue_words.specs.declared.word.Word.{Word}
use Rattle.glue_words.specs.declared.word.Word.TheVariants.{Num}
use Rattle.glue_words.specs.declared.item.Item.{Item}
use Rattle.glue_words.specs.declared.item.Role.TheVariants.{Helper}
use Rattle.glue_marked.specs.Reads.{words_in}
use Rattle.glue_marked.specs.StandIns.{Names, name_for, renamed, spread}

-- the item of the helper with this key
abbrev pub helper_item : List ℕ → List Word → Item
helper_item key words = record { role = Helper key; words = words }

-- words with names for their stand-ins, and exports for theirs
unfoldable pub named_words : Names → Names → List Word → List Word
named_words names exports words = renamed (name_for names) (name_for exports) words

-- the words of a text with a number for `$size`
unfoldable pub sized_words : ℤ → List ℕ → List Word
sized_words size text = spread ((codes "$size", Num size ∷ []) ∷ []) (words_in text)
