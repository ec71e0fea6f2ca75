-- Late names: those that words use outside all braces, but not when they are evaluated; read from left to right.
use Rattle.std.specs.Prelude.{ℕ, zero, suc, false, true, ◌==◌, List, [], ◌∷◌}
use Rattle.glue_words.specs.declared.word.Word.{Word}
use Rattle.glue_words.specs.declared.word.Word.TheVariants.{Punct, Refer}
use Rattle.glue_words.specs.declared.punct.TheConstants as punct

-- one brace less
abbrev pub closing : ℕ → ℕ
closing zero = zero
closing (suc depth) = depth

-- how many braces are open behind a word
abbrev pub depth_after : ℕ → Word → ℕ
depth_after depth (Punct place) =
    elim (place == punct.OPEN_BRACE) [
      | true ↦ suc depth
      | false ↦ elim (place == punct.CLOSE_BRACE) [ true ↦ closing depth | false ↦ depth ]
    ]
depth_after depth word = depth

-- how many are open behind words
abbrev pub depth_of : ℕ → List Word → ℕ
depth_of depth [] = depth
depth_of depth (word ∷ words) = depth_of (depth_after depth word) words

-- the names of the module's scope that words use outside all braces and before the first `=>`, but not when they are
-- evaluated; the number says how many braces are open before the words
abbrev pub late_names : ℕ → List Word → List (List ℕ)
late_names depth [] = []
late_names zero (Refer name false ∷ words) = name ∷ late_names zero words
late_names (suc depth) (Refer name false ∷ words) = late_names (suc depth) words
late_names depth (Punct place ∷ words) =
    elim (place == punct.ARROW) [ true ↦ [] | false ↦ late_names (depth_after depth (Punct place)) words ]
late_names depth (word ∷ words) = late_names depth words
