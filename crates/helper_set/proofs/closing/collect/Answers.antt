use Rattle.std.proofs.Common.{◌≡◌, ℕ, List, ap, subst, sym, ◌∙◌, arith, ◌<◌, ◌+◌}
use Rattle.std.specs.Ordering.{nat_cmp}
use Rattle.std.specs.Cmp.Lexicographic.{slice_cmp}
use Rattle.std.specs.BTreeMap.{insert_entry}
use Rattle.glue_words.specs.declared.word.Word.{Word}
use Rattle.helper_set.specs.Helpers.{AreEntries}
use Rattle.helper_set.proofs.Entries.{IsHeld, passes, puts, ends}
use Rattle.helper_set.proofs.closing.collect.Goals.{then-marks-node+in_ok-key+in_ok-words+in_ok-insert, else-marks-node}
use Rattle.helper_set.proofs.closing.collect.Goals as goal

pub loop-node-preserved : goal.loop-node-preserved
loop-node-preserved g c =
    let table = c.args.table.now in
    let key = g.T.Table.key table in
    let words = g.T.Table.words table in
    let marks = c.args.marks.now in
    let n = c.loop-node.node in
    let old = c.loop-node.held in
    elim c.if-marks-node.branch [
      | then-marks-node+in_ok-key+in_ok-words+in_ok-insert w ↦
          let lt : n < g.T.Table.count table = omega (arith, c.loop-node-test.true, c.requires.count) in
          let is : w.insert.new.self ≡ insert_entry (slice_cmp nat_cmp) old (key n) (words n) =
          w.in_ok-insert.ensures.entries ∙ ap (λ (k : List ℕ). insert_entry (slice_cmp nat_cmp) old k w.in_ok-words.field-0) w.in_ok-key.ensures.key
          ∙ ap (λ (ws : List Word). insert_entry (slice_cmp nat_cmp) old (key n) ws) w.in_ok-words.ensures.words in
          subst (λ (es : List (List ℕ × List Word)). AreEntries key words (IsHeld marks (n + 1)) es) (sym w.held-is)
          (puts key words marks (g.T.Table.count table) n old w.insert.new.self lt (g.met.T.Table.apart table) w.if-marks-node.true is w.in_ok-insert.ensures.ordered c.loop-node.invariant)
      | else-marks-node w ↦
          subst (λ (es : List (List ℕ × List Word)). AreEntries key words (IsHeld marks (n + 1)) es) (sym w.held-is)
          (passes key words marks n old w.if-marks-node.false c.loop-node.invariant)
    ]

pub returns : goal.returns
returns g c = record { entries = ends (g.T.Table.key c.args.table.now) (g.T.Table.words c.args.table.now) c.args.marks.now c.loop-node.node c.loop-node.held c.loop-node-test.false c.loop-node.invariant }
