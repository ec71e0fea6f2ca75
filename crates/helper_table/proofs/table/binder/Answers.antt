use Rattle.std.proofs.Common.{◌≡◌, List, sym, subst, ◌∙◌, true≢false}
use Rattle.values.specs.Lists.{IsIn}
use Rattle.glue_words.specs.declared.word.Word.{Word}
use Rattle.glue_words.specs.Names.{bound_in}
use Rattle.helper_table.specs.Made.{helper_words}
use Rattle.helper_table.specs.Laws.{finds_law, bound_by_none, bound_past, bound_otherwise}
use Rattle.helper_table.proofs.table.binder.Goals as goal

pub returns-in_default : goal.returns-in_default
returns-in_default c = record { binder = sym (bound_by_none c.args.parts.now c.args.name.now (rw c.in_default.is at c.in_ok-node.ensures.found)) }

pub returns-then-node-count : goal.returns-then-node-count
returns-then-node-count c =
    let told = rw c.in-Some.is at c.in_ok-node.ensures.found in
    record { binder = sym (bound_past c.args.parts.now c.args.name.now c.in-Some.node told (rw c.count.ensures.count at c.if-node-count.true)) }

pub returns-then-binds : goal.returns-then-binds
returns-then-binds c =
    let words : c.as_slice.result.now ≡ helper_words c.args.parts.now c.in-Some.node = c.as_slice.ensures ∙ c.in_ok-words.ensures.words in
    record {
      binder =
          sym (finds_law c.args.parts.now c.args.name.now c.in-Some.node (rw c.count.ensures.count at c.if-node-count.false)
          (subst (λ (ws : List Word). IsIn c.args.name.now (bound_in ws)) words (c.binds.ensures.test.0 c.if-binds.true)));
    }

pub returns : goal.returns
returns c =
    let told = rw c.in-Some.is at c.in_ok-node.ensures.found in
    let words : c.as_slice.result.now ≡ helper_words c.args.parts.now c.in-Some.node = c.as_slice.ensures ∙ c.in_ok-words.ensures.words in
    record {
      binder =
          sym (bound_otherwise c.args.parts.now c.args.name.now c.in-Some.node told
          (λ h. true≢false (sym (c.binds.ensures.test.1 (subst (λ (ws : List Word). IsIn c.args.name.now (bound_in ws)) (sym words) h)) ∙ c.if-binds.false)));
    }
