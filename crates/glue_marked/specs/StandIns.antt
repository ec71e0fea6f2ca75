-- Texts with stand-ins: names for names, and words for local names.
use Rattle.std.specs.Prelude.{ℕ, true, false, List, [], ◌∷◌, map}
use Rattle.std.specs.List.{flat_map}
use Rattle.std.specs.Str.{bytes_eq}
use Rattle.glue_words.specs.declared.word.Word.{Word}
use Rattle.glue_words.specs.declared.word.Word.TheVariants.{Text, Bind, Refer, Host, LocalBind, Local, Prop, Wasm}
use Rattle.glue_words.specs.declared.word.Word.TheVariants.{Outer}

-- each stand-in with the name that stands for it
abbrev pub Names : Type 0
Names = List (List ℕ × List ℕ)

-- the name for a stand-in, and each other name itself
abbrev pub name_for : Names → List ℕ → List ℕ
name_for [] name = name
name_for (e ∷ names) name = elim (bytes_eq e.0 name) [ true ↦ e.1 | false ↦ name_for names name ]

-- a word with its name renamed: names of scopes and of properties by the first, exports, names for the outside and
-- texts by the second
abbrev pub renamed_word : (rename respell : List ℕ → List ℕ) → Word → Word
renamed_word rename respell (Bind name) = Bind (rename name)
renamed_word rename respell (Refer name now) = Refer (rename name) now
renamed_word rename respell (Host name now) = Host (rename name) now
renamed_word rename respell (LocalBind name) = LocalBind (rename name)
renamed_word rename respell (Local name) = Local (rename name)
renamed_word rename respell (Prop name) = Prop (rename name)
renamed_word rename respell (Wasm name) = Wasm (respell name)
renamed_word rename respell (Outer name) = Outer (respell name)
renamed_word rename respell (Text text) = Text (respell text)
renamed_word rename respell word = word

abbrev pub renamed : (rename respell : List ℕ → List ℕ) → List Word → List Word
renamed rename respell words = map (renamed_word rename respell) words

-- each stand-in with the words that stand for it
abbrev pub Spreads : Type 0
Spreads = List (List ℕ × List Word)

abbrev pub words_for : Spreads → List ℕ → List Word
words_for [] name = Local name ∷ []
words_for (e ∷ spreads) name = elim (bytes_eq e.0 name) [ true ↦ e.1 | false ↦ words_for spreads name ]

abbrev pub spread_word : Spreads → Word → List Word
spread_word spreads (Local name) = words_for spreads name
spread_word spreads word = word ∷ []

-- the words with others for their stand-ins
abbrev pub spread : Spreads → List Word → List Word
spread spreads words = flat_map (spread_word spreads) words
