-- Settings and modules that pass the tests.
use Rattle.std.proofs.Common.{◌≡◌, Bool, Result, Ok, sym, ap, ◌∙◌}
use Rattle.wasm_core.specs.Contents.{Contents}
use Rattle.wasm_core.specs.Edits.{without_custom}
use Rattle.glue_shared.specs.declared.settings.Settings.{Settings}
use Rattle.glue_faults.specs.declared.fault.Fault.{Fault}
use Rattle.glue_prepare.specs.declared.prepared.Prepared.{Prepared}
use Rattle.glue_prepare.specs.Prepared.{marker, with_marked_target, with_features, target_tests, with_producer, with_own_exception, with_wanted_exports, are_features_missing, finished, prepared, ◌>>◌}

-- the tests, and what comes behind them
abbrev tested : Bool → Settings → Contents → Result Prepared Fault
tested keep s m = target_tests s m >> Ok (finished keep s m)

-- settings and a module that pass the tests are finished
pub passed : (keep : Bool) (s t : Settings) (m n : Contents) → n ≡ without_custom marker m → t ≡ with_features n (with_marked_target m s) → target_tests t n ≡ Ok tt
    → prepared keep s m ≡ Ok (finished keep t n)
unfolding prepared
passed keep s t m n unmarked featured fit =
    ap (λ k. tested keep (with_features k (with_marked_target m s)) k) (sym unmarked)
    ∙ ap (λ u. tested keep u n) (sym featured)
    ∙ ap (λ r. r >> Ok (finished keep t n)) fit

-- what is finished, by a module and a truth that equal its own
pub finished_as : (keep : Bool) (s : Settings) (m n : Contents) (missing : Bool) → n ≡ with_producer (with_own_exception (with_wanted_exports keep s m)) → missing ≡ are_features_missing m
    → ◌≡◌ {A = Result Prepared Fault} (Ok (finished keep s m)) (Ok (record { settings = s; «module» = n; features_missing = missing }))
finished_as keep s m n missing changed told = ap (λ k. Ok (record { settings = s; «module» = k; features_missing = are_features_missing m })) (sym changed)
    ∙ ap (λ b. Ok (record { settings = s; «module» = n; features_missing = b })) (sym told)
