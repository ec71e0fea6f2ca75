use Rattle.std.proofs.Common.{◌≡◌, ◌∙◌, ◌+◌, ◌<◌, ◌++◌, ◌∷◌, [], ℕ, List, length, get_or, take, ap, sym, arith}
use Rattle.std.specs.List.{flat_map}
use Rattle.std.proofs.lemmas.List.{take_more, flat_map_more}
use Rattle.std.proofs.lemmas.Grind.{flat_map-append}
use Rattle.glue_words.specs.declared.item.Item.{Item}
use Rattle.glue_words.specs.Words.{printed, text_of}
use Rattle.glue_words.proofs.printing.print.Goals as goal

-- an item more
printed_more : (items : List Item) (i : ℕ) (item : Item) → i < length items → item ≡ get_or items i item → printed (take (i + 1) items) ≡ printed (take i items) ++ flat_map text_of item.words
printed_more items i item l e =
    ap printed (take_more items i item l ∙ ap (λ x. take i items ++ x ∷ []) (sym e))
    ∙ ap (flat_map text_of) (sym (flat_map_more (λ x. x.words) [] (take i items) item))
    ∙ flat_map-append text_of (flat_map (λ x. x.words) (take i items)) item.words

pub loop-item-preserved : goal.loop-item-preserved
loop-item-preserved c =
    let more = printed_more c.args.items.now c.loop-item.item-index c.item-item.result c.loop-item-test.true c.item-item.is in
    grind (arith, more)
