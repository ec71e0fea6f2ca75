-- Constants that are lists of texts.
use Rattle.std.specs.Prelude.{ℕ, List, [], ◌∷◌, ◌++◌}
use Rattle.std.specs.List.{flat_map}
use Rattle.glue_words.specs.declared.word.Word.{Word}
use Rattle.glue_words.specs.declared.word.Word.TheVariants as w
use Rattle.glue_words.specs.declared.item.Item.{Item}
use Rattle.glue_words.specs.declared.item.Role.TheVariants.{Body}
use Rattle.glue_words.specs.declared.key.TheConstants as key
use Rattle.glue_words.specs.declared.punct.TheConstants as punct
use Rattle.glue_words.specs.Words.{space, line_feed}

-- a text after another
abbrev pub next_text : List ℕ → List Word
next_text text = w.Punct punct.COMMA ∷ space ∷ w.Text text ∷ []

-- texts, with `, ` between them
abbrev pub texts_words : List (List ℕ) → List Word
texts_words [] = []
texts_words (text ∷ texts) = w.Text text ∷ flat_map next_text texts

-- `const bound = ["a", "b"];`
abbrev pub texts_constant_words : List ℕ → List (List ℕ) → List Word
texts_constant_words bound texts =
    w.Key key.CONST ∷ space ∷ w.Bind bound ∷ space ∷ w.Punct punct.ASSIGN ∷ space ∷ w.Punct punct.OPEN_BRACKET
    ∷ texts_words texts ++ w.Punct punct.CLOSE_BRACKET ∷ w.Punct punct.SEMICOLON ∷ line_feed ∷ []

-- the constant that is the list of these texts
abbrev pub texts_constant : List ℕ → List (List ℕ) → Item
texts_constant bound texts = record { role = Body; words = texts_constant_words bound texts }
