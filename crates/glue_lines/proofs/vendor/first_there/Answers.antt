use Rattle.std.proofs.Common.{◌++◌, ◌∷◌, [], List, ap, ◌∙◌, append_assoc, codes, map, true}
use Rattle.std.specs.List.{flat_map}
use Rattle.glue_words.specs.declared.word.Word.{Word}
use Rattle.glue_words.specs.declared.word.Word.TheVariants.{Host}
use Rattle.glue_lines.specs.Vendor.{tested_words, closing_word}
use Rattle.glue_lines.proofs.vendor.first_there.Goals as goal

pub returns : goal.returns
returns c =
    let names = c.args.names.now in
    let closed = map closing_word names in
    let last = Host (codes "undefined") true ∷ [] in record {
      words =
          c.finish.ensures.words ∙ c.in_ok-push_closed.ensures.words
          ∙ ap (λ (ws : List Word). ws ++ closed) (c.in_ok-host_now.ensures.ok
          ∙ ap (λ (ws : List Word). ws ++ last) (c.in_ok-push_tested.ensures.words
          ∙ ap (λ (ws : List Word). ws ++ flat_map tested_words names) c.new-words.ensures.empty))
          ∙ append_assoc (flat_map tested_words names) last closed;
    }
