use Rattle.std.proofs.Common.{ℕ, Bool, List, refl, sym, ◌∙◌, arith}
use Rattle.wasm_file.specs.Customs.{is_same_text}
use Rattle.wasm_file.specs.declared.entries.ProducerField.{ProducerField}
use Rattle.wasm_core.specs.Edits.{new_field, with_version, with_field}
use Rattle.wasm_core.proofs.Changed.{first_within, set_first, push_last}
use Rattle.wasm_core.proofs.producers.set_field.Goals as goal

-- a field with the version of an entry given
versioned : List ℕ → List ℕ → ProducerField → ProducerField
versioned name version f = record f { values = with_version name version f.values }

pub index_mut-found-requires : goal.index_mut-found-requires
index_mut-found-requires c =
    let field : List ℕ = c.args.field.now in
    let has_name : ProducerField → Bool = λ f. is_same_text f.name field in
    let within = first_within has_name (versioned c.args.name.now c.args.version.now)
    (new_field field c.args.name.now c.args.version.now) c.deref.result.now c.args.fields.now.items c.in-Some.place
    (sym c.place_named.ensures ∙ c.in-Some.is) (sym c.deref.ensures.value) in
    omega (arith, within, c.args.fields.now.ok.0)

pub returns-in_ok-found-in-Some-clause-ok : goal.returns-in_ok-found-in-Some-clause-ok
unfolding with_field versioned
returns-in_ok-found-in-Some-clause-ok c =
    let field : List ℕ = c.args.field.now in
    let has_name : ProducerField → Bool = λ f. is_same_text f.name field in
    let given = c.in_ok-found-in-Some.ensures in
    let same = c.as_slice.ensures in
    set_first has_name (versioned c.args.name.now c.args.version.now)
    (new_field field c.args.name.now c.args.version.now) c.args.fields.now.items c.args.fields.now.items
    c.in-Some.place c.index_mut-found.result.now _
    (rw c.deref.ensures.value at (sym c.place_named.ensures ∙ c.in-Some.is)) refl c.index_mut-found.ensures.value
    (rw (given, same) refl)

pub returns-in_ok-push-in-None-clause-ok : goal.returns-in_ok-push-in-None-clause-ok
unfolding with_field versioned
returns-in_ok-push-in-None-clause-ok c =
    let field : List ℕ = c.args.field.now in
    let has_name : ProducerField → Bool = λ f. is_same_text f.name field in
    let added = c.in_ok-new_field-in-None.ensures in
    push_last has_name (versioned c.args.name.now c.args.version.now)
    (new_field field c.args.name.now c.args.version.now) c.args.fields.now.items _
    (rw c.deref.ensures.value at (sym c.place_named.ensures ∙ c.in-None.is))
    (c.in_ok-push-in-None.ensures.items ∙ rw added refl)
