use Rattle.std.proofs.Common.{◌≡◌, ℕ, List, Option, IfOk, subst}
use Rattle.std.specs.Prelude.{option_map}
use Rattle.glue_faults.specs.declared.fault.Fault.TheVariants as faults
use Rattle.claimed_modules.proofs.Foreign.{foreign_known}
use Rattle.claimed_modules.proofs.modules.foreign_module.Goals as goal

pub returns : goal.returns
returns c =
    let Gives : Option (List ℕ) → Type 0 = λ found. IfOk c.foreign_fault.result (λ fault. fault ≡ option_map (λ name. faults.ModuleClash name) found) in
    record {
      fault = subst Gives
          (foreign_known c.args.settings.now c.args.lowered.now _ _ _ _ _ c.in_ok-own.ensures.places c.in_ok-paired.ensures.places
          c.in_ok-claims.ensures.claims c.as_slice.ensures c.imports.ensures)
          c.foreign_fault.ensures.fault;
    }
