use Rattle.std.proofs.Common.{sym, ◌∙◌}
use Rattle.helper_table.specs.Laws.{keyed_by_none, keyed_past, keyed_absent, keyed_there}
use Rattle.helper_table.proofs.table.keyed.Goals as goal

pub returns-in_default : goal.returns-in_default
returns-in_default c = record { keyed = sym (keyed_by_none c.args.parts.now c.args.key.now (rw c.in_default.is at c.in_ok-node.ensures.found)) }

pub returns-then-node-count : goal.returns-then-node-count
returns-then-node-count c =
    let told = rw c.in-Some.is at c.in_ok-node.ensures.found in
    record { keyed = sym (keyed_past c.args.parts.now c.args.key.now c.in-Some.node told (rw c.count.ensures.count at c.if-node-count.true)) }

pub returns-then-branch : goal.returns-then-branch
returns-then-branch c =
    let told = rw c.in-Some.is at c.in_ok-node.ensures.found in
    record {
      keyed = sym (keyed_there c.args.parts.now c.args.key.now c.in-Some.node told (rw c.count.ensures.count at c.if-node-count.false)
          (sym c.in_ok-is_there.ensures.there ∙ c.if-branch.true));
    }

pub returns-else-branch : goal.returns-else-branch
returns-else-branch c =
    let told = rw c.in-Some.is at c.in_ok-node.ensures.found in
    record { keyed = sym (keyed_absent c.args.parts.now c.args.key.now c.in-Some.node told (sym c.in_ok-is_there.ensures.there ∙ c.if-branch.false)) }
