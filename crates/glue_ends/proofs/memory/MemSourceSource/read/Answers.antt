use Rattle.std.proofs.Common.{◌≡◌, refl, ap, ◌∙◌, sym, take, drop}
use Rattle.std.proofs.Math.Seq.{drop-nil}
use Rattle.std.proofs.lemmas.List.{drop-drop}
use Rattle.glue_ends.proofs.Pieces.{drop_piece}
use Rattle.glue_ends.proofs.memory.MemSourceSource.read.Goals as goal

pub returns-then-next_fails : goal.returns-then-next_fails
returns-then-next_fails c = rw (← c.self.view_is) record {
  bound = tt;
  bytes = refl;
  later = c.next_fails.ensures.later;
  failed = c.next_fails.ensures.rose c.if-next_fails.true;
  kept = tt;
  calls = c.next_fails.ensures.made;
  fails = ap (λ v. v.items) c.next_fails.ensures.same;
  listed = (λ _. c.next_fails.ensures.listed.0 c.if-next_fails.true, λ _. refl);
  piece = tt;
  same = refl;
}

pub returns-clause-bytes : goal.returns-clause-bytes
returns-clause-bytes c = rw (← c.self.view_is) (
    let bytes = c.self.inside.bytes.items in
    let rest : c.split_at.result.1.now ≡ drop c.self.inside.place bytes = c.split_at.ensures.back ∙ ap (drop c.self.inside.place) c.deref.ensures.value in (
      drop_piece bytes _ c.self.inside.place c.give-count.result (c.give-count.ensures.bytes ∙ ap (take c.give-count.result) rest),
      λ none room. sym (drop-drop c.give-count.result c.self.inside.place bytes) ∙ ap (drop c.give-count.result) (sym rest ∙ c.give-count.ensures.end none room) ∙ drop-nil c.give-count.result,
    ))
