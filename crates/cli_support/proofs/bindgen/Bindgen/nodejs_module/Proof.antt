-- `nodejs_module` lets the generator out of what `hold_nodejs_module` answers.
use base.Logic.{id⊢}
use Rattle.cli_support.specs.contracts.bindgen.Bindgen.nodejs_module as f
use Rattle.cli_support.specs.contracts.bindgen.Bindgen.hold_nodejs_module as g
use Rattle.cli_support.proofs.bindgen.Bindgen.nodejs_module.Statement.{statement}
use Rattle.cli_support.proofs.bindgen.Bindgen.nodejs_module.Code as code
use Rattle.cli_support.proofs.bindgen.Bindgen.hold_nodejs_module.Met as hold
use Rattle.cli_support.proofs.held.release_set.Met as release
use Rattle.cli_support.proofs.Parameters.{set_fault, truth}
use Rattle.cli_support.proofs.Setters.{single_met}

pub nodejs_module_spec : {M : Type 1} → statement M
nodejs_module_spec 𝓤 𝓛 𝓜 𝓡 wired =
    single_met 0 set_fault (truth 1) 𝓛 𝓜 𝓡 f.Key.name g.Key.name (λ κs a. (f.clauses 𝓛 𝓜.mem 𝓡.returns κs a).ensures tt)
    (λ κs a. (g.clauses 𝓛 𝓜.mem 𝓡.returns κs a).ensures tt) (code.unfolded 𝓤 𝓛.H 𝓜 𝓡 wired) (record {
      met = hold.met 𝓤 𝓛 𝓜 𝓡 (code.calls-cli_support::bindgen::Bindgen::hold_nodejs_module 𝓡.env wired);
      released_met = release.met 𝓤 𝓛 𝓜 𝓡 (code.calls-cli_support::held::release_set 𝓡.env wired);
      same_ok = λ κs a x. id⊢ 𝓤 _;
      same_err = λ κs a e. id⊢ 𝓤 _;
    })
