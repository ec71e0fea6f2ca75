-- `out_name` lets the generator out of what `hold_out_name` answers.
use base.Logic.{id⊢}
use Rattle.cli_support.specs.contracts.bindgen.Bindgen.out_name as f
use Rattle.cli_support.specs.contracts.bindgen.Bindgen.hold_out_name as g
use Rattle.cli_support.proofs.bindgen.Bindgen.out_name.Statement.{statement}
use Rattle.cli_support.proofs.bindgen.Bindgen.out_name.Code as code
use Rattle.cli_support.proofs.bindgen.Bindgen.hold_out_name.Met as hold
use Rattle.cli_support.proofs.held.release_kept.Met as release
use Rattle.cli_support.proofs.Parameters.{want_of_memory, allocator, text}
use Rattle.cli_support.proofs.Setters.{pair_met}

pub out_name_spec : {M : Type 1} → statement M
out_name_spec 𝓤 𝓛 𝓜 𝓡 wired =
    pair_met 1 want_of_memory (allocator 2) text 𝓛 𝓜 𝓡 f.Key.name g.Key.name (λ κs a. (f.clauses 𝓛 𝓜.mem 𝓡.returns κs a).ensures tt)
    (λ κs a. (g.clauses 𝓛 𝓜.mem 𝓡.returns κs a).ensures tt) (code.unfolded 𝓤 𝓛.H 𝓜 𝓡 wired) (record {
      met = hold.met 𝓤 𝓛 𝓜 𝓡 (code.calls-cli_support::bindgen::Bindgen::hold_out_name 𝓡.env wired);
      released_met = release.met 𝓤 𝓛 𝓜 𝓡 (code.calls-cli_support::held::release_kept 𝓡.env wired);
      same_ok = λ κs a x. id⊢ 𝓤 _;
      same_err = λ κs a e. id⊢ 𝓤 _;
    })
