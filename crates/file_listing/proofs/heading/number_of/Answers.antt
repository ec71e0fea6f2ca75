use Rattle.std.proofs.Common.{◌≡◌, Ok, sym, ap, ◌∙◌}
use Rattle.std.specs.Fmt.{decimal}
use Rattle.file_listing.proofs.Headings.{no_number_by_text, number_is, number_read}
use Rattle.file_listing.proofs.heading.number_of.Goals as goal

pub returns-in_default : goal.returns-in_default
returns-in_default c = no_number_by_text c.args.digits.now c.in_default.ensures.cases.0

pub returns-in_default-parse : goal.returns-in_default-parse
returns-in_default-parse c n small is =
    let read : c.parse.result ≡ Ok n = number_read c.in-Ok.text.now c.parse.result n c.parse.ensures.value.0 small (c.in-Ok.ensures.cases.0 ∙ is) in
    cc (read, c.in_default-parse.is)

pub returns-then-not-is_same : goal.returns-then-not-is_same
returns-then-not-is_same c n small is =
    let same = number_is c.in-Ok.text.now c.parse.result c.in-Ok-parse.number n c.parse.ensures.value.0 c.in-Ok-parse.is small (c.in-Ok.ensures.cases.0 ∙ is) in
    c.is_same.ensures.other c.if-not-is_same.true (c.as_bytes.ensures.value ∙ c.as_str.ensures.value ∙ c.in_ok-own.ensures ∙ ap decimal same ∙ sym is)
