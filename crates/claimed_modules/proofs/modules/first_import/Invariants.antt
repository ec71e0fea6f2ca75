use Rattle.std.proofs.Common.{◌≡◌, drop}
use Rattle.glue_shared.specs.Names.{js_import, names_of}
use Rattle.glue_faults.specs.First.{first_of}
use Rattle.claimed_modules.specs.Modules.{reserved_in}
use Rattle.claimed_modules.proofs.modules.first_import.Given as goal

abbrev pub invariant-loop-entry : goal.invariant-loop-entry
invariant-loop-entry l =
    first_of (λ i. first_of reserved_in (names_of (js_import i.1))) (drop l.entry-index l.entries)
    ≡ first_of (λ i. first_of reserved_in (names_of (js_import i.1))) l.entries
