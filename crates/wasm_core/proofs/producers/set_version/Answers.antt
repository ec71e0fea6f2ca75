use Rattle.std.proofs.Common.{ℕ, Bool, List, refl, sym, ap, ◌∙◌, arith}
use Rattle.wasm_file.specs.Customs.{is_same_text}
use Rattle.wasm_file.specs.declared.entries.ProducerValue.{ProducerValue}
use Rattle.wasm_core.specs.Edits.{with_version}
use Rattle.wasm_core.proofs.Changed.{first_within, set_first, push_last}
use Rattle.wasm_core.proofs.producers.set_version.Goals as goal
use Rattle.wasm_core.proofs.producers.set_version.Goals.{in-Some+in_ok-copies-in-Some, in-None+in_ok-new_value-in-None+in_ok-push-in-None}

pub index_mut-requires : goal.index_mut-requires
index_mut-requires c =
    let name : List ℕ = c.args.name.now in
    let version : List ℕ = c.args.version.now in
    let has_name : ProducerValue → Bool = λ v. is_same_text v.name name in
    let within = first_within has_name (λ v. record v { version = version }) (record { name = name; version = version })
    c.args.values.now c.in_ok-copies.copies.items c.in-Some.place (sym c.place_named.ensures ∙ c.in-Some.is)
    c.in_ok-copies.ensures in
    omega (arith, within, c.in_ok-copies.copies.ok.0)

pub returns : goal.returns
unfolding with_version
returns c =
    let name : List ℕ = c.args.name.now in
    let version : List ℕ = c.args.version.now in
    let has_name : ProducerValue → Bool = λ v. is_same_text v.name name in
    let entry : ProducerValue = record { name = name; version = version } in
    let same = c.in_ok-copies.ensures in
    elim c.match-place_named.branch [
      | in-Some+in_ok-copies-in-Some w ↦
          let given = w.in_ok-copies-in-Some.ensures in
          c.from_vec.ensures ∙ ap (λ v. v.items) w.copies-is
          ∙ set_first has_name (λ v. record v { version = version }) entry c.args.values.now c.in_ok-copies.copies.items
          w.in-Some.place w.index_mut.result.now _ (sym c.place_named.ensures ∙ w.in-Some.is) same
          w.index_mut.ensures.value (rw given refl)
      | in-None+in_ok-new_value-in-None+in_ok-push-in-None w ↦
          let added = w.in_ok-new_value-in-None.ensures in
          c.from_vec.ensures ∙ push_last has_name (λ v. record v { version = version }) entry c.args.values.now _
          (sym c.place_named.ensures ∙ w.in-None.is)
          (ap (λ v. v.items) w.copies-is ∙ w.in_ok-push-in-None.ensures.items ∙ rw (same, added) refl)
    ]
