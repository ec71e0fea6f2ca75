use Rattle.std.proofs.Common.{◌==◌, ◌&&◌, length, sym, ap, ◌∙◌}
use Rattle.wasm_file.proofs.lists.is_plain.Goals as goal

pub returns-then-len-eq0 : goal.returns-then-len-eq0
returns-then-len-eq0 c = rw (c.in-Some.is, c.len-then-len-eq0.ensures) (sym (ap (λ n. (n == 0) && (length c.in-Some.ty.now.results == 0)) (sym c.len.ensures ∙ c.if-len-eq0.true)))
