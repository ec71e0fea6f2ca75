use Rattle.std.proofs.Common.{[], ◌∷◌, true, append_assoc}
use Rattle.glue_words.specs.declared.punct.TheConstants.{OR_ASSIGN}
use Rattle.glue_exports.specs.Printed.{declared_below, named_word, places_from, publish_definition}
use Rattle.glue_exports.proofs.top.reexport_items.Goals as goal

pub returns : goal.returns
returns c =
    let hosts = c.args.hosts.now in
    let d = c.args.definition.now in
    let below = c.args.below.now in
    let joined = append_assoc (declared_below below) (places_from hosts (named_word hosts d true) OR_ASSIGN [] below)
    (publish_definition hosts c.args.segment.now d ∷ []) in
    record {
      items =
          rw (
            c.in_ok-push.ensures.ok,
            c.in_ok-append.ensures.ok,
            c.in_ok-items.ensures.items,
            c.in_ok-places_below.ensures.items,
            c.in_ok-word.ensures.word,
            c.in_ok-publish_definition.ensures.item,
          ) joined;
    }
