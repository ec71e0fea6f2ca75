use Rattle.std.proofs.Common.{◌≡◌, drop}
use Rattle.glue_prepare.specs.Prepared.{first_exception}
use Rattle.glue_prepare.proofs.exception.first_exception.Given as goal

abbrev pub invariant-loop-place : goal.invariant-loop-place
invariant-loop-place l = first_exception l.«module».tags l.place (drop l.place l.«module».imports) ≡ first_exception l.«module».tags 0 l.«module».imports
