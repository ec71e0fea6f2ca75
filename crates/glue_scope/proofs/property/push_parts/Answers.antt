use Rattle.std.proofs.Common.{◌≡◌, ◌++◌, ℕ, List, Bool, false, true, true≢false, cond, refl, sym, ap, ◌∙◌, lit<}
use Rattle.std.specs.Prelude.{◌==◌, map}
use Rattle.std.specs.List.{flat_map, slice_split}
use Rattle.std.specs.Str.Iter.{split_text, split_has_more, split_pattern}
use Rattle.std.proofs.lemmas.List.{flat_map_more, map_push}
use Rattle.std.proofs.lemmas.Iterator.Splits.{YieldsList-from_str_split}
use Rattle.std.proofs.lemmas.Iterator.Consumers.{YieldsList-end}
use Rattle.glue_words.specs.declared.word.Word.{Word}
use Rattle.glue_words.specs.Limits.{is_computed}
use Rattle.glue_scope.specs.Properties.{segment_words, property_parts}
use Rattle.glue_scope.proofs.property.push_parts.Goals as goal

second : (b : Bool) (x y : List Word) → b ≡ false → cond b x y ≡ y
second true x y h = absurd (true≢false h)
second false x y h = refl

split_parts : (name : List ℕ) → is_computed name ≡ false → property_parts name ≡ flat_map segment_words (slice_split (λ b. b == 46) name)
unfolding property_parts
split_parts name h = second (is_computed name) _ (flat_map segment_words (slice_split (λ b. b == 46) name)) h

pub returns : goal.returns
returns c =
    let same = c.into_iter-segment-iterator.ensures.into_iter_gives in
    let pieces =
    YieldsList-end (YieldsList-from_str_split 46 c.args.name.now (lit< tt) (ap split_text same ∙ c.split-segment-items.ensures.text)
    (ap split_has_more same ∙ c.split-segment-items.ensures.has_more) (ap split_pattern same ∙ c.split-segment-items.ensures.pattern))
    c.loop-segment.yielded _ c.loop-segment.yielded_by _ _ c.in-None.is c.next.ensures.steps in
    c.loop-segment.invariant
    ∙ ap (λ (ws : List Word). c.args.words.now.items ++ ws) (ap (flat_map segment_words) pieces.0 ∙ sym (split_parts c.args.name.now (sym c.is_computed_key.ensures.computed ∙ c.if-is_computed_key.false)))

pub loop-segment-preserved : goal.loop-segment-preserved
loop-segment-preserved c =
    c.in_ok-push_segment.ensures
    ∙ ap (λ (ws : List Word). ws ++ segment_words c.in-Some.segment.now) c.loop-segment.invariant
    ∙ flat_map_more segment_words c.args.words.now.items (map (λ x. x.now) c.loop-segment.yielded) c.in-Some.segment.now
    ∙ ap (λ (ss : List (List ℕ)). c.args.words.now.items ++ flat_map segment_words ss) (sym (map_push (λ x. x.now) c.loop-segment.yielded c.in-Some.segment))
