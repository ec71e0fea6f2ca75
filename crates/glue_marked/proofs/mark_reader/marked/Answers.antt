use Rattle.std.proofs.Common.{◌≡◌, ◌∙◌, sym, ap, arith, length, length-drop, append-nil, false, [], reverse}
use Rattle.std.specs.Prelude.{Ok, Err}
use Rattle.glue_marked.specs.Marked.{words_from, read_marked}
use Rattle.glue_marked.proofs.MarkedReading.{followed, followed_nil, followed_more, step_on, step_bad, all_read}
use Rattle.glue_marked.proofs.MarkedLimits.{read_keeps}
use Rattle.glue_marked.proofs.MarkedPlaces.{fault_placed}
use Rattle.glue_marked.proofs.mark_reader.marked.Goals as goal

pub loop-place-preserved : goal.loop-place-preserved
loop-place-preserved c = record {
  within =
      omega (
        arith,
        ap length c.behind-rest.ensures,
        length-drop c.loop-place.place c.as_bytes-bytes.result.now,
        c.len_of.ensures.within,
        c.max-len.ensures,
      );
  reads =
      let w = rw c.in-Some.is at c.in_ok-word.ensures in
      let step = step_on c.in-Some.word c.loop-place.place c.max-len.result c.len_of.result c.loop-place.opened
      c.as_slice.result.now c.loop-place.after_dot c.as_bytes-bytes.result.now c.behind-rest.result.now
      c.front.result.now c.kind_of-kind.result
      c.loop-place-test.true c.behind-rest.ensures c.as_slice.ensures c.kind_of-kind.ensures c.len_of.ensures.value
      c.max-len.ensures c.front.ensures w in
      rw (c.in_ok-push.ensures.ok, c.in_ok-open_after.ensures, c.is_dot-after_dot.ensures)
      (followed_more c.loop-place.words c.in-Some.word _ ∙ ap (followed c.loop-place.words) (sym step)
      ∙ c.loop-place.invariant.reads);
}

pub loop-place-init : goal.loop-place-init
unfolding read_marked
loop-place-init c = record {
  within = omega arith;
  reads =
      rw (
        c.new-words.ensures,
        c.new-opened.ensures,
      ) (followed_nil (words_from 0 0 [] false c.as_bytes-bytes.result.now));
}

pub returns-in_default : goal.returns-in_default
returns-in_default c =
    let w = rw c.in_default.is at c.in_ok-word.ensures in
    let step = step_bad c.loop-place.place c.max-len.result c.len_of.result c.loop-place.opened c.as_slice.result.now
    c.loop-place.after_dot c.as_bytes-bytes.result.now c.behind-rest.result.now c.front.result.now
    c.kind_of-kind.result
    c.loop-place-test.true c.behind-rest.ensures c.as_slice.ensures c.kind_of-kind.ensures c.len_of.ensures.value
    c.max-len.ensures c.front.ensures w in
    let read : read_marked c.args.text.now
    ≡ Err c.loop-place.place = ap read_marked (sym c.as_bytes-bytes.ensures.value)
    ∙ sym c.loop-place.invariant.reads ∙ ap (followed c.loop-place.words) step in
    record { reads = read; placed = fault_placed c.args.text.now c.loop-place.place read; limits = tt }

pub returns : goal.returns
returns c =
    let done = all_read c.loop-place.place (reverse c.loop-place.opened) c.loop-place.after_dot
    c.as_bytes-bytes.result.now c.loop-place.place c.loop-place-test.false in
    let read : read_marked c.args.text.now
    ≡ Ok c.into_vec.result.items = ap read_marked (sym c.as_bytes-bytes.ensures.value)
    ∙ sym c.loop-place.invariant.reads ∙ ap (followed c.loop-place.words) done
    ∙ ap Ok (append-nil c.loop-place.words ∙ sym c.into_vec.ensures) in
    record { reads = read; placed = tt; limits = read_keeps c.args.text.now c.into_vec.result.items read }
