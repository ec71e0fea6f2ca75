use Rattle.std.proofs.Common.{◌≡◌, ◌∷◌, length, true, false, codes, bytes_eq, string_bytes, Option, Some, option_map, sym, ap, subst, ◌∙◌, arith}
use Rattle.std.specs.Prelude.{IfOk}
use Rattle.serde_json.specs.Data.{object}
use Rattle.serde_json.specs.View.{view, members_view}
use Rattle.serde_json.proofs.Views.{view-Object}
use Rattle.glue_shared.specs.declared.adapter.AdapterType.{AdapterType}
use Rattle.glue_shared.specs.declared.adapter.AdapterType.TheVariants as type
use Rattle.glue_json.specs.Adapters.{type_of, keyed_type}
use Rattle.glue_json.proofs.OneKey.{other_counts, option_type, other_type}
use Rattle.glue_json.proofs.types.+read_type.Goals as goal

pub returns-then-len-ne1-clause-failed : goal.returns-then-len-ne1-clause-failed
returns-then-len-ne1-clause-failed t c = λ _.
    ap type_of (ap view c.in-Object.is ∙ view-Object c.in-Object.members) ∙ other_counts c.in-Object.members.entries (λ one. let all = c.len.ensures.len ∙ one in grind (arith))

pub returns-then-eq-clause-ok : goal.returns-then-eq-clause-ok
returns-then-eq-clause-ok t c =
    let split : c.in-Object.members.entries ≡ (c.in-Some.key.now, c.in-Some.member.now) ∷ c.next.new.self = sym c.iter.ensures.rest ∙ c.in-Some.ensures.steps in
    let one : length ((c.in-Some.key.now, c.in-Some.member.now) ∷ c.next.new.self) ≡ 1 = (let l = sym (ap length split) ∙ sym c.len.ensures.len in cc) in
    let named : bytes_eq (string_bytes c.in-Some.key.now) (codes "option") ≡ true = cc in
    ap type_of (ap view c.in-Object.is ∙ view-Object c.in-Object.members ∙ ap (λ es. object (members_view es)) split)
    ∙ option_type (c.in-Some.key.now, c.in-Some.member.now) c.next.new.self one named
    ∙ ap (option_map type.Option) c.in_ok-inner-in-Some.ensures.ok
    ∙ ap (λ x. Some (type.Option x)) (sym c.in_ok-new-in-Some.ensures)

pub returns-else-eq-clause-ok : goal.returns-else-eq-clause-ok
returns-else-eq-clause-ok t c =
    let split : c.in-Object.members.entries ≡ (c.in-Some.key.now, c.in-Some.member.now) ∷ c.next.new.self = sym c.iter.ensures.rest ∙ c.in-Some.ensures.steps in
    let one : length ((c.in-Some.key.now, c.in-Some.member.now) ∷ c.next.new.self) ≡ 1 = (let l = sym (ap length split) ∙ sym c.len.ensures.len in cc) in
    let named : bytes_eq (string_bytes c.in-Some.key.now) (codes "option") ≡ false = cc in
    let same : keyed_type (string_bytes c.in-Some.key.now) (view c.in-Some.member.now) ≡ keyed_type c.as_str-in-Some-2.result.now (view c.in-Some.member.now) =
    ap (λ k. keyed_type k (view c.in-Some.member.now)) (sym c.as_str-in-Some-2.ensures.value) in
    let said : type_of (view c.args.value.now) ≡ keyed_type c.as_str-in-Some-2.result.now (view c.in-Some.member.now) =
    ap type_of (ap view c.in-Object.is ∙ view-Object c.in-Object.members ∙ ap (λ es. object (members_view es)) split)
    ∙ other_type (c.in-Some.key.now, c.in-Some.member.now) c.next.new.self one named
    ∙ same in
    subst (λ (o : Option AdapterType). IfOk c.keyed_type.result (λ x. o ≡ Some x)) (sym said) c.keyed_type.ensures.ok

pub returns-else-eq-clause-failed : goal.returns-else-eq-clause-failed
returns-else-eq-clause-failed t c = λ e.
    let split : c.in-Object.members.entries ≡ (c.in-Some.key.now, c.in-Some.member.now) ∷ c.next.new.self = sym c.iter.ensures.rest ∙ c.in-Some.ensures.steps in
    let one : length ((c.in-Some.key.now, c.in-Some.member.now) ∷ c.next.new.self) ≡ 1 = (let l = sym (ap length split) ∙ sym c.len.ensures.len in cc) in
    let named : bytes_eq (string_bytes c.in-Some.key.now) (codes "option") ≡ false = cc in
    ap type_of (ap view c.in-Object.is ∙ view-Object c.in-Object.members ∙ ap (λ es. object (members_view es)) split)
    ∙ other_type (c.in-Some.key.now, c.in-Some.member.now) c.next.new.self one named
    ∙ ap (λ k. keyed_type k (view c.in-Some.member.now)) (sym c.as_str-in-Some-2.ensures.value)
    ∙ c.keyed_type.ensures.failed e
