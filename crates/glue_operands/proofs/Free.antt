-- Parts that go by neither locals nor operands, and take no export: the names in their words are those that they bring along.
use Rattle.std.proofs.Common.{◌≡◌, ℕ, List, [], ◌∷◌, ◌++◌, refl, ap, sym, ◌∙◌, Bool, true, false, true≢false}
use Rattle.std.specs.Prelude.{Option, codes}
use Rattle.std.specs.List.{filter_map, list_all}
use Rattle.std.proofs.lemmas.Bool.{and_parts}
use Rattle.std.proofs.lemmas.List.Elements.{filter_map-append}
use Rattle.glue_words.specs.declared.word.Word.{Word}
use Rattle.glue_words.specs.Names.{wasm_name, wasm_in}
use Rattle.glue_tree.proofs.Names.{IsKind}
use Rattle.glue_imports.specs.declared.part.Part.{Part}
use Rattle.glue_imports.specs.declared.part.Part.TheVariants as part
use Rattle.glue_operands.specs.Spelling.{part_words, parts_words}
use Rattle.glue_operands.proofs.Parts.{outer_part, outer_parts}
use Rattle.glue_operands.proofs.Paths.{path_tells, property_tells, chained_tells}

-- the part goes by no local and no operand, and takes no export
abbrev pub is_free : Part → Bool
is_free (part.Export name) = false
is_free (part.Binding n) = false
is_free (part.Local n) = false
is_free (part.Operand n) = false
is_free (part.Whole n) = false
is_free (part.Arguments spread) = false
is_free (part.OtherArguments spread) = false
is_free other = true

module _ (kind : Word → Option (List ℕ)) (is : IsKind kind) where
  part_found : (p : Part) → is_free p ≡ true → filter_map kind (part_words [] [] p) ≡ filter_map kind (outer_part p)
  part_found (part.Export name) h = absurd (true≢false (sym h))
  part_found (part.Binding n) h = absurd (true≢false (sym h))
  part_found (part.Local n) h = absurd (true≢false (sym h))
  part_found (part.Operand n) h = absurd (true≢false (sym h))
  part_found (part.Whole n) h = absurd (true≢false (sym h))
  part_found (part.Arguments spread) h = absurd (true≢false (sym h))
  part_found (part.OtherArguments spread) h = absurd (true≢false (sym h))
  part_found (part.Host name fields) h = refl
  part_found (part.Name name) h = refl
  part_found part.Exports h = refl
  part_found (part.Property name) h = refl
  part_found (part.Chained name) h = refl
  part_found (part.Member name) h = refl
  part_found (part.Literal text) h = rw (is.text text) refl
  part_found (part.Number value) h = rw (is.num value) refl
  part_found (part.Punct place) h = rw (is.punct place) refl
  part_found (part.Key place) h = rw (is.key place) refl
  part_found part.Space h = rw (is.gap (codes " ")) refl
  part_found part.LineFeed h = rw (is.gap (codes "\n")) refl
  part_found (part.Note text) h = refl

  pub free_found : (parts : List Part) → list_all is_free parts ≡ true → filter_map kind (parts_words parts [] []) ≡ filter_map kind (outer_parts parts)
  free_found [] h = refl
  free_found (p ∷ parts) h =
      let both = and_parts (is_free p) (list_all is_free parts) h in
      filter_map-append kind (part_words [] [] p) (parts_words parts [] [])
      ∙ ap (λ (ns : List (List ℕ)). ns ++ filter_map kind (parts_words parts [] [])) (part_found p both.0)
      ∙ ap (λ (ns : List (List ℕ)). filter_map kind (outer_part p) ++ ns) (free_found parts both.1)
      ∙ sym (filter_map-append kind (outer_part p) (outer_parts parts))

-- they take no exports
part_takes : (p : Part) → is_free p ≡ true → wasm_in (outer_part p) ≡ []
part_takes (part.Export name) h = absurd (true≢false (sym h))
part_takes (part.Host name fields) h = (path_tells fields).takes
part_takes (part.Property name) h = (property_tells name).takes
part_takes (part.Chained name) h = (chained_tells name).takes
part_takes other h = refl

pub free_take : (parts : List Part) → list_all is_free parts ≡ true → wasm_in (outer_parts parts) ≡ []
free_take [] h = refl
free_take (p ∷ parts) h =
    let both = and_parts (is_free p) (list_all is_free parts) h in
    filter_map-append wasm_name (outer_part p) (outer_parts parts)
    ∙ ap (λ (ns : List (List ℕ)). ns ++ wasm_in (outer_parts parts)) (part_takes p both.0)
    ∙ free_take parts both.1
