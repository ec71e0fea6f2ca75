use Rattle.std.proofs.Common.{◌≡◌, drop}
use Rattle.claimed_modules.specs.Modules.{placed_clash, first_placed}
use Rattle.claimed_modules.proofs.modules.first_foreign.Given as goal

abbrev pub invariant-loop-place : goal.invariant-loop-place
invariant-loop-place l =
    first_placed (placed_clash l.own l.paired l.claims) l.place (drop l.place l.imports) ≡ first_placed (placed_clash l.own l.paired l.claims) 0 l.imports
