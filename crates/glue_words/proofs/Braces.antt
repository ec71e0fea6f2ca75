-- Braces and the names outside of them, as facts tell them, are those that are read from left to right.
use Rattle.std.proofs.Common.{◌≡◌, ℕ, zero, suc, ◌==◌, List, ◌∷◌, [], refl, ap, sym, ◌∙◌, Bool, true, false}
use Rattle.std.proofs.Common.{true≢false, arith}
use Rattle.std.proofs.lemmas.Bool.Decides.{nat_tests}
use Rattle.glue_words.specs.declared.word.Word.{Word}
use Rattle.glue_words.specs.declared.word.Word.TheVariants.{Punct, Refer}
use Rattle.glue_words.specs.declared.punct.TheConstants as punct
use Rattle.glue_words.specs.Facts.{Levels, Last, Below, with_names, opening, blank, leveled, levels_in}
use Rattle.glue_words.specs.Facts.{depth_behind, names_outside}
use Rattle.glue_words.specs.LateNames.{closing, depth_after, depth_of, late_names}

-- ---- how many braces are open

depth_opening : (depth : ℕ) (levels : Levels) → depth_behind depth (opening levels) ≡ depth_behind (suc depth) levels
depth_opening depth (Last names count) = omega arith
depth_opening depth (Below names levels) = refl

depth_blank : (depth : ℕ) (levels : Levels) → depth_behind depth (blank levels) ≡ depth_behind depth levels
depth_blank depth (Last names count) = refl
depth_blank depth (Below names levels) = depth_blank (closing depth) levels

depth_names : (depth : ℕ) (names : List (List ℕ)) (levels : Levels)
    → depth_behind depth (with_names names levels) ≡ depth_behind depth levels
depth_names depth names (Last more count) = refl
depth_names depth names (Below more levels) = refl

-- `=>` is no brace
is_place : (place other : ℕ) → (place == other) ≡ true → place ≡ other
is_place place other h = grind (arith, nat_tests)

no_opening : (place : ℕ) → (place == punct.ARROW) ≡ true → (place == punct.OPEN_BRACE) ≡ false
no_opening place h = ap (λ p. p == punct.OPEN_BRACE) (is_place place punct.ARROW h)

no_closing : (place : ℕ) → (place == punct.ARROW) ≡ true → (place == punct.CLOSE_BRACE) ≡ false
no_closing place h = ap (λ p. p == punct.CLOSE_BRACE) (is_place place punct.ARROW h)

depth_place : (depth place : ℕ) (levels : Levels) (arrow opens closes : Bool) → (place == punct.ARROW) ≡ arrow
    → (place == punct.OPEN_BRACE) ≡ opens → (place == punct.CLOSE_BRACE) ≡ closes
    → depth_behind depth (elim arrow [
      | true ↦ blank levels
      | false ↦ elim opens [
        | true ↦ opening levels
        | false ↦ elim closes [ true ↦ Below [] levels | false ↦ levels ]
      ]
    ])
    ≡ depth_behind (elim opens [ true ↦ suc depth | false ↦ elim closes [ true ↦ closing depth | false ↦ depth ] ])
    levels
depth_place depth place levels true true closes a o c = absurd (true≢false (sym o ∙ no_opening place a))
depth_place depth place levels true false true a o c = absurd (true≢false (sym c ∙ no_closing place a))
depth_place depth place levels true false false a o c = depth_blank depth levels
depth_place depth place levels false true closes a o c = depth_opening depth levels
depth_place depth place levels false false true a o c = refl
depth_place depth place levels false false false a o c = refl

depth_word : (depth : ℕ) (word : Word) (levels : Levels)
    → depth_behind depth (leveled word levels) ≡ depth_behind (depth_after depth word) levels
depth_word depth (Refer name false) levels = depth_names depth (name ∷ []) levels
depth_word depth (Refer name true) levels = refl
depth_word depth (Punct place) levels =
    depth_place depth place levels (place == punct.ARROW) (place == punct.OPEN_BRACE) (place == punct.CLOSE_BRACE)
    refl refl refl
depth_word depth word levels = refl

pub depth_told : (depth : ℕ) (words : List Word) → depth_behind depth (levels_in words) ≡ depth_of depth words
depth_told depth [] = omega arith
depth_told depth (word ∷ words) = depth_word depth word (levels_in words) ∙ depth_told (depth_after depth word) words

-- ---- names outside of them

outside_opening : (depth : ℕ) (levels : Levels)
    → names_outside depth (opening levels) ≡ names_outside (suc depth) levels
outside_opening zero (Last names count) = refl
outside_opening (suc depth) (Last names count) = refl
outside_opening depth (Below names levels) = refl

outside_closing : (depth : ℕ) (levels : Levels)
    → names_outside depth (Below [] levels) ≡ names_outside (closing depth) levels
outside_closing zero levels = refl
outside_closing (suc depth) levels = refl

outside_blank : (depth : ℕ) (levels : Levels) → names_outside depth (blank levels) ≡ []
outside_blank zero (Last names count) = refl
outside_blank (suc depth) (Last names count) = refl
outside_blank zero (Below names levels) = outside_blank zero levels
outside_blank (suc depth) (Below names levels) = outside_blank depth levels

outside_name : (name : List ℕ) (levels : Levels)
    → names_outside zero (with_names (name ∷ []) levels) ≡ name ∷ names_outside zero levels
outside_name name (Last names count) = refl
outside_name name (Below names levels) = refl

inside_name : (depth : ℕ) (name : List ℕ) (levels : Levels)
    → names_outside (suc depth) (with_names (name ∷ []) levels) ≡ names_outside (suc depth) levels
inside_name depth name (Last names count) = refl
inside_name depth name (Below names levels) = refl

outside_place : (depth : ℕ) (levels : Levels) (names : ℕ → List (List ℕ)) (arrow opens closes : Bool)
    → ((d : ℕ) → names_outside d levels ≡ names d)
    → names_outside depth (elim arrow [
      | true ↦ blank levels
      | false ↦ elim opens [
        | true ↦ opening levels
        | false ↦ elim closes [ true ↦ Below [] levels | false ↦ levels ]
      ]
    ])
    ≡ elim arrow [
      | true ↦ []
      | false ↦ names (elim opens [
        | true ↦ suc depth
        | false ↦ elim closes [ true ↦ closing depth | false ↦ depth ]
      ])
    ]
outside_place depth levels names true opens closes h = outside_blank depth levels
outside_place depth levels names false true closes h = outside_opening depth levels ∙ h (suc depth)
outside_place depth levels names false false true h = outside_closing depth levels ∙ h (closing depth)
outside_place depth levels names false false false h = h depth

pub late_told : (depth : ℕ) (words : List Word) → names_outside depth (levels_in words) ≡ late_names depth words
late_told zero [] = refl
late_told (suc depth) [] = refl
late_told zero (Refer name false ∷ words) =
    outside_name name (levels_in words) ∙ ap (λ (ns : List (List ℕ)). name ∷ ns) (late_told zero words)
late_told (suc depth) (Refer name false ∷ words) =
    inside_name depth name (levels_in words) ∙ late_told (suc depth) words
late_told depth (Punct place ∷ words) =
    outside_place depth (levels_in words) (λ d. late_names d words) (place == punct.ARROW)
    (place == punct.OPEN_BRACE) (place == punct.CLOSE_BRACE) (λ d. late_told d words)
late_told depth (word ∷ words) = late_told depth words
