use Rattle.std.proofs.Common.{◌≡◌, ℕ, List, ◌++◌, Result, Ok, Err, OnOk, is_ok, if◌then◌else◌, ap, ◌∙◌, append_assoc}
use Rattle.wasm_bytes.specs.Spelling.{framed_bytes}
use Rattle.wasm_bytes.proofs.spell.write_framed.Goals as goal

at_ok : {A E : Type 0} (r : Result A E) (new longer same wanted : List ℕ) → new ≡ (if is_ok r then longer else same) → longer ≡ wanted → OnOk r (new ≡ wanted)
at_ok (Ok _) new longer same wanted is e = is ∙ e
at_ok (Err _) new longer same wanted is e = tt

pub returns : goal.returns
unfolding framed_bytes
returns c =
    at_ok c.extend_from_slice.result _ _ _ _ c.extend_from_slice.ensures.items
    (ap (λ xs. xs ++ c.args.content.now) c.in_ok-push_number.ensures ∙ append_assoc c.args.out.now.items _ _)
