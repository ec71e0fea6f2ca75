use Rattle.std.proofs.Common.{◌≡◌, ◌++◌, take}
use Rattle.std.specs.List.{filter, flat_map}
use Rattle.glue_words.specs.Limits.{is_computed}
use Rattle.glue_context.specs.Keys.{member_name}
use Rattle.cli_support.proofs.keys.push_members.Given as goal

abbrev pub invariant-loop-export : goal.invariant-loop-export
invariant-loop-export l = l.out.items ≡ l.fn.out.items ++ flat_map (λ e. filter is_computed (member_name e.class e)) (take l.export-index l.exports)
