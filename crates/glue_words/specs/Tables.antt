-- The fixed texts: punctuation, keywords and regular expressions.
use Rattle.std.specs.Prelude.{ℕ, List, [], map, slice_index_or}
use Rattle.glue_words.specs.declared.tables.TheConstants.{PUNCTUATION, KEYWORDS, REGEXES}

-- punctuation, in the order of its places
abbrev pub punct_table : List (List ℕ)
punct_table = map (λ text. text.now) PUNCTUATION

-- keywords, in the order of their places
abbrev pub key_table : List (List ℕ)
key_table = map (λ text. text.now) KEYWORDS

-- the two regular expressions
abbrev pub regex_table : List (List ℕ)
regex_table = map (λ text. text.now) REGEXES

-- the entry at a place, and nothing past the end
unfoldable pub punct_text : ℕ → List ℕ
punct_text place = slice_index_or punct_table place []

unfoldable pub key_text : ℕ → List ℕ
key_text place = slice_index_or key_table place []

unfoldable pub regex_text : ℕ → List ℕ
regex_text place = slice_index_or regex_table place []
