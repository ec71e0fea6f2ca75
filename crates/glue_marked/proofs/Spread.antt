-- Texts in which words stand for a local name: an operand in parentheses, a list of names, a number, a text. Their
-- facts are those of the words around and of the words that stand there, joined.
use Rattle.std.proofs.Common.{◌≡◌, ℕ, List, ◌∷◌, [], refl, ap, ◌∙◌, Bool, true, false}
use Rattle.std.specs.Str.{bytes_eq}
use Rattle.glue_words.specs.declared.word.Word.{Word}
use Rattle.glue_words.specs.declared.word.Word.TheVariants.{Local}
use Rattle.glue_marked.specs.StandIns.{Spreads, words_for, spread_word, spread}
use Rattle.glue_words.specs.Facts.{Facts, facts, joined}
use Rattle.glue_words.proofs.Joined.{facts-append}

-- each stand-in with the facts of its words
abbrev pub Known : Type 0
Known = List (List ℕ × Facts)

abbrev pub known_of : Spreads → Known
known_of [] = []
known_of (e ∷ spreads) = (e.0, facts e.1) ∷ known_of spreads

abbrev pub facts_for : Known → List ℕ → Facts
facts_for [] name = facts (Local name ∷ [])
facts_for (e ∷ known) name = elim (bytes_eq e.0 name) [ true ↦ e.1 | false ↦ facts_for known name ]

abbrev pub word_facts : Known → Word → Facts
word_facts known (Local name) = facts_for known name
word_facts known word = facts (word ∷ [])

-- the facts of words, with those that are known of stand-ins
abbrev pub spread_facts : Known → List Word → Facts
spread_facts known [] = facts []
spread_facts known (word ∷ words) = joined (word_facts known word) (spread_facts known words)

same_for : (spreads : Spreads) (name : List ℕ) → facts (words_for spreads name) ≡ facts_for (known_of spreads) name
same_for [] name = refl
same_for (e ∷ spreads) name = one (bytes_eq e.0 name) (same_for spreads name)
  where
    one : (b : Bool) → facts (words_for spreads name) ≡ facts_for (known_of spreads) name
        → facts (elim b [ true ↦ e.1 | false ↦ words_for spreads name ])
        ≡ elim b [ true ↦ facts e.1 | false ↦ facts_for (known_of spreads) name ]
    one true rest = refl
    one false rest = rest

same_word : (spreads : Spreads) (word : Word) → facts (spread_word spreads word) ≡ word_facts (known_of spreads) word
same_word spreads (Local name) = same_for spreads name
same_word spreads word = refl

pub facts-spread : (spreads : Spreads) (words : List Word)
    → facts (spread spreads words) ≡ spread_facts (known_of spreads) words
facts-spread spreads [] = refl
facts-spread spreads (word ∷ words) =
    facts-append (spread_word spreads word) (spread spreads words)
    ∙ ap (λ (f : Facts). joined f (facts (spread spreads words))) (same_word spreads word)
    ∙ ap (joined (word_facts (known_of spreads) word)) (facts-spread spreads words)
