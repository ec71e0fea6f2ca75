-- What reading a marked text promises.
use Rattle.std.specs.Prelude.{◌≡◌, ◌<◌, length, ℕ, List, [], true, Result, Ok, Err, Vec}
use Rattle.std.specs.List.{list_all}
use Rattle.std.specs.Global.{Global}
use Rattle.glue_words.specs.Limits.{keeps_limits}
use Rattle.glue_words.specs.declared.word.Word.{Word}
use Rattle.glue_marked.specs.Marked.{read_marked}
use Rattle.glue_marked.specs.declared.mark_fault.MarkFault.{MarkFault}
use Rattle.glue_marked.specs.declared.mark_fault.MarkFault.TheVariants.{BadMark, OutOfMemory}

-- unless memory runs out, the answer is what the text reads as
abbrev pub Reads : Result (Vec Word Global) MarkFault → Result (List Word) ℕ → Type 0
Reads (Ok words) read = read ≡ Ok words.items
Reads (Err (BadMark place)) read = read ≡ Err place
Reads (Err OutOfMemory) read = Unit {0}

-- the words of a text in the notation, and none of another
unfoldable pub words_in : List ℕ → List Word
words_in text = elim (read_marked text) [ Ok words ↦ words | Err place ↦ [] ]

-- each word keeps the limits of its kind
unfoldable pub KeepLimits : List Word → Type 0
KeepLimits words = list_all keeps_limits words ≡ true

-- the place of a fault is one of the text
abbrev pub IsPlaced : Result (Vec Word Global) MarkFault → List ℕ → Type 0
IsPlaced (Ok words) text = Unit {0}
IsPlaced (Err (BadMark place)) text = place < length text
IsPlaced (Err OutOfMemory) text = Unit {0}
