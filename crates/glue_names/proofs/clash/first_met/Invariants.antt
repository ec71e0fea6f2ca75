use Rattle.std.proofs.Common.{◌≡◌, drop}
use Rattle.glue_faults.specs.Clash.{first_told}
use Rattle.glue_names.proofs.clash.first_met.Given as goal

abbrev pub invariant-loop-entry : goal.invariant-loop-entry
invariant-loop-entry g l = first_told g.E.Claim.asks g.E.Claim.tells (g.N.Names.bound l.told) (drop l.entry-index l.entries) ≡ first_told g.E.Claim.asks g.E.Claim.tells (g.N.Names.bound l.fn.told) l.entries
