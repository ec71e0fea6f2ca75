use Rattle.std.proofs.Common.{◌≡◌, ℕ, ◌+◌, ◌<◌, List, [], ◌∷◌, ◌++◌, length, get_or, take, refl, append_assoc, append-nil}
use Rattle.std.proofs.lemmas.Grind.{flat_map-append}
use Rattle.std.proofs.lemmas.List.{take_more}
use Rattle.std.specs.List.{flat_map}
use Rattle.glue_words.specs.declared.word.Word.{Word}
use Rattle.glue_exports.specs.Enums.{Variant, variant_words}
use Rattle.glue_exports.proofs.enums.push_variants.Goals as goal

next : (f : Variant → List Word) (vs : List Variant) (i : ℕ) (v : Variant) (first before after : List Word) → i < length vs → v ≡ get_or vs i v
    → after ≡ before ++ f v → before ≡ first ++ flat_map f (take i vs) → after ≡ first ++ flat_map f (take (i + 1) vs)
next f vs i v first before after within here more so_far =
    rw (
      more,
      so_far,
      append_assoc first (flat_map f (take i vs)) (f v),
      take_more vs i v within,
      ← here,
      flat_map-append f (take i vs) (v ∷ []),
      append-nil (f v),
    ) refl

pub loop-variant-preserved : goal.loop-variant-preserved
loop-variant-preserved c =
    next variant_words _ _ _ _ _ _ c.loop-variant-test.true c.variant-item.is c.in_ok-push_variant.ensures.words c.loop-variant.invariant
