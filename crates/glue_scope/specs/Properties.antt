-- The words that access a property.
use Rattle.std.specs.Prelude.{ℕ, ◌==◌, List, [], ◌∷◌, if◌then◌else◌}
use Rattle.std.specs.List.{flat_map, slice_split}
use Rattle.glue_words.specs.Ident.{is_ident}
use Rattle.glue_words.specs.Limits.{is_computed}
use Rattle.glue_words.specs.declared.punct.TheConstants as punct
use Rattle.glue_words.specs.declared.word.Word.{Word}
use Rattle.glue_words.specs.declared.word.Word.TheVariants.{Punct, Text, Prop, Splice}

-- the access of one property: `.name`, or `["name"]` where the name is no identifier
unfoldable pub segment_words : List ℕ → List Word
segment_words name = if is_ident name then Punct punct.DOT ∷ Prop name ∷ [] else Punct punct.OPEN_BRACKET ∷ Text name ∷ Punct punct.CLOSE_BRACKET ∷ []

-- a computed key whole, or the access of each part between dots
unfoldable pub property_parts : List ℕ → List Word
property_parts name = if is_computed name then Splice name ∷ [] else flat_map segment_words (slice_split (λ b. b == 46) name)
