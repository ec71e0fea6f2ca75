use Rattle.std.proofs.Common.{◌∙◌, ap, reverse}
use Rattle.glue_binding.specs.Body.{newest_first, stack_of, plain_pieces}
use Rattle.glue_binding.proofs.Stacks.{newest_first_reverse}
use Rattle.glue_binding.proofs.body.Body.new.Goals as goal

pub returns-clause-stack : goal.returns-clause-stack
unfolding stack_of
returns-clause-stack c = ap stack_of c.new.ensures

pub returns-clause-names : goal.returns-clause-names
returns-clause-names c = ap newest_first (c.from_vec.ensures ∙ c.reverse.ensures.items
    ∙ ap reverse c.into_vec-coming.ensures) ∙ newest_first_reverse c.args.temps

pub returns-clause-pieces : goal.returns-clause-pieces
unfolding plain_pieces
returns-clause-pieces c = ap plain_pieces c.new-2.ensures
