use Rattle.std.proofs.Common.{ap, ◌∙◌}
use Rattle.hex.specs.Hex.{encode_lower}
use Rattle.file_listing.proofs.Bodies.{no_bytes_other, not_decoded}
use Rattle.file_listing.proofs.body.decoded.Goals as goal

pub returns-in-Err : goal.returns-in-Err
returns-in-Err c = not_decoded c.args.digits.now c.in-Err.error c.not_decoded.result c.in-Err.ensures.err c.not_decoded.ensures

pub returns-then-not-is_same : goal.returns-then-not-is_same
returns-then-not-is_same c =
    no_bytes_other c.args.digits.now c.in-Ok.bytes.items c.in-Ok.ensures.ok
    (λ same. c.is_same.ensures.other c.if-not-is_same.true (c.as_bytes.ensures.value ∙ c.as_str.ensures.value ∙ c.in_ok-own.ensures ∙ ap encode_lower c.as_slice.ensures.value ∙ same))
