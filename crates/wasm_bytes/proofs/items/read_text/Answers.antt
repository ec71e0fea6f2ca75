use Rattle.std.proofs.Common.{refl}
use Rattle.std.proofs.lemmas.Str.{is_utf8-from_IsUtf8}
use Rattle.wasm_bytes.specs.Items.{name}
use Rattle.wasm_bytes.proofs.Texts.{not_utf8}
use Rattle.wasm_bytes.proofs.items.read_text.Goals as goal

pub returns-in-Ok-clause-value : goal.returns-in-Ok-clause-value
unfolding name
returns-in-Ok-clause-value c =
    let text = c.in-Ok.ensures.cases in
    rw (c.in_ok-len.ensures.value, c.in_ok-raw.ensures.value, is_utf8-from_IsUtf8 _ text.1, text.0) refl

pub returns-in-Err-clause-value : goal.returns-in-Err-clause-value
unfolding name
returns-in-Err-clause-value c = rw (c.in_ok-len.ensures.value, c.in_ok-raw.ensures.value, not_utf8 _ c.in-Err.ensures.cases.0, c.place-place.ensures) refl
