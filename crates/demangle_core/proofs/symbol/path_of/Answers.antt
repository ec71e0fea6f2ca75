use Rattle.std.proofs.Common.{◌≡◌, ◌++◌, ◌-◌, ◌+◌, ℕ, suc, length, string_bytes, List, Some, ◌∙◌, sym, ap, arith}
use Rattle.std.specs.Prelude.{codes}
use Rattle.std.specs.Str.{bytes_eq}
use Rattle.demangle_core.specs.Symbol.{path_of}
use Rattle.demangle_core.proofs.Steps.{after, no_part, last_part, next_part}
use Rattle.demangle_core.proofs.symbol.path_of.Goals as goal

pub returns-in-None : goal.returns-in-None
returns-in-None c =
    let most = length c.args.bytes.now - (c.loop.counter + 1) in
    let less = c.loop-test.true in
    let one : length c.args.bytes.now - c.loop.counter ≡ suc most = omega (arith, less) in
    let out = string_bytes c.loop.path in
    record {
      path = sym (no_part out most c.loop.rest.now (sym c.in-None.ensures.part)) ∙ ap (λ (n : ℕ). after out (path_of n c.loop.rest.now)) (sym one) ∙ c.loop.invariant;
    }

pub returns-then-eq : goal.returns-then-eq
returns-then-eq c =
    let most = length c.args.bytes.now - (c.loop.counter + 1) in
    let less = c.loop-test.true in
    let one : length c.args.bytes.now - c.loop.counter ≡ suc most = omega (arith, less) in
    let out = string_bytes c.loop.path in
    let ends = ap (bytes_eq c.in-Some.behind.now) (sym c.as_slice.ensures) ∙ sym c.eq.ensures ∙ c.if-eq.true in
    let last = last_part out most c.loop.rest.now c.in-Some.part.now c.in-Some.behind.now (sym c.in-Some.ensures.part) ends in
    record {
      path = ap (λ (text : List ℕ). Some text) c.in_ok-push_part-in-Some.ensures.pushed ∙ sym last
          ∙ ap (λ (n : ℕ). after out (path_of n c.loop.rest.now)) (sym one) ∙ c.loop.invariant;
    }

pub loop-preserved : goal.loop-preserved
loop-preserved c =
    let most = length c.args.bytes.now - (c.loop.counter + 1) in
    let less = c.loop-test.true in
    let one : length c.args.bytes.now - c.loop.counter ≡ suc most = omega (arith, less) in
    let out = string_bytes c.loop.path in
    let goes = ap (bytes_eq c.in-Some.behind.now) (sym c.as_slice.ensures) ∙ sym c.eq.ensures ∙ c.if-eq.false in
    let next = next_part out most c.loop.rest.now c.in-Some.part.now c.in-Some.behind.now (sym c.in-Some.ensures.part) goes in
    let text = c.in_ok-push_str-in-Some.ensures.bytes ∙ ap (λ (shown : List ℕ). shown ++ codes "::") c.in_ok-push_part-in-Some.ensures.pushed in
    ap (λ (text : List ℕ). after text (path_of most c.in-Some.behind.now)) text ∙ sym next ∙ ap (λ (n : ℕ). after out (path_of n c.loop.rest.now)) (sym one) ∙ c.loop.invariant
