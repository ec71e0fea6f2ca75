-- `input_bytes` lets the generator out of what `hold_input_bytes` answers.
use base.Logic.{id⊢}
use Rattle.cli_support.specs.contracts.bindgen.Bindgen.input_bytes as f
use Rattle.cli_support.specs.contracts.bindgen.Bindgen.hold_input_bytes as g
use Rattle.cli_support.proofs.bindgen.Bindgen.input_bytes.Statement.{statement}
use Rattle.cli_support.proofs.bindgen.Bindgen.input_bytes.Code as code
use Rattle.cli_support.proofs.bindgen.Bindgen.hold_input_bytes.Met as hold
use Rattle.cli_support.proofs.held.release_kept.Met as release
use Rattle.cli_support.proofs.Parameters.{want_of_memory, allocator, text, bytes}
use Rattle.cli_support.proofs.Setters.{triple_met}

pub input_bytes_spec : {M : Type 1} → statement M
input_bytes_spec 𝓤 𝓛 𝓜 𝓡 wired =
    triple_met 1 want_of_memory (allocator 2) text (bytes 2) 𝓛 𝓜 𝓡 f.Key.name g.Key.name (λ κs a. (f.clauses 𝓛 𝓜.mem 𝓡.returns κs a).ensures tt)
    (λ κs a. (g.clauses 𝓛 𝓜.mem 𝓡.returns κs a).ensures tt) (code.unfolded 𝓤 𝓛.H 𝓜 𝓡 wired) (record {
      met = hold.met 𝓤 𝓛 𝓜 𝓡 (code.calls-cli_support::bindgen::Bindgen::hold_input_bytes 𝓡.env wired);
      released_met = release.met 𝓤 𝓛 𝓜 𝓡 (code.calls-cli_support::held::release_kept 𝓡.env wired);
      same_ok = λ κs a x. id⊢ 𝓤 _;
      same_err = λ κs a e. id⊢ 𝓤 _;
    })
