use Rattle.std.proofs.Common.{◌≡◌, ℕ, List, Ok, sym, ap, ◌∙◌, arith}
use Rattle.std.proofs.lemmas.Bool.{false≢true}
use Rattle.std.specs.Prelude.{nat_eq}
use Rattle.std.specs.Cmp.Lexicographic.{pointwise}
use Rattle.std.specs.Fmt.{decimal}
use Rattle.std.proofs.lemmas.Fmt.{parse-decimal}
use Rattle.helper_table.specs.Prints.{text_self}
use Rattle.helper_table.proofs.reading.read_number.Goals as goal

pub returns-in-Err : goal.returns-in-Err
returns-in-Err c = record {
  number = λ n small e.
      let r : c.parse.result ≡ Ok n = parse-decimal 32 n c.args.text.now c.parse.result small (omega arith) e c.parse.ensures.value.0 in
      let i = c.in-Err.is in
      cc;
}

pub returns : goal.returns
returns c = record {
  number = λ n small e.
      let r : c.parse.result ≡ Ok n = parse-decimal 32 n c.args.text.now c.parse.result small (omega arith) e c.parse.ensures.value.0 in
      let i : c.parse.result ≡ Ok c.in-Ok.number = c.in-Ok.is in
      let same : c.in-Ok.number ≡ n = cc in
      let again : c.as_str.result.now ≡ c.args.text.now = c.as_str.ensures.value ∙ c.in_ok-again-in-Ok.ensures.ok ∙ ap decimal same ∙ sym e in
      false≢true (c.if-eq.ensures ∙ ap (λ (t : List ℕ). pointwise nat_eq t c.args.text.now) again ∙ text_self c.args.text.now);
}
