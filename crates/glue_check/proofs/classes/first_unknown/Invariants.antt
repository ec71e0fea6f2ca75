use Rattle.std.proofs.Common.{◌≡◌, ℕ}
use Rattle.glue_faults.specs.First.{first_of}
use Rattle.glue_shared.specs.declared.adapter.Adapter.{Adapter}
use Rattle.glue_check.specs.Classes.{unknown_in}
use Rattle.glue_check.proofs.classes.first_unknown.Given as goal

abbrev pub invariant-loop-adapter : goal.invariant-loop-adapter
invariant-loop-adapter l = first_of (λ (e : ℕ × Adapter). unknown_in l.classes e.1) l.adapter-iterator ≡ first_of (λ (e : ℕ × Adapter). unknown_in l.classes e.1) l.lowered.wit.adapters
