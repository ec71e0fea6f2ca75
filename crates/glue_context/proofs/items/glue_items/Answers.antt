use Rattle.glue_context.proofs.Common.{Frame, ImportId, ap, frame_by, is_definable, map, own_imports}
use Rattle.glue_context.proofs.Lists.{all_moved, glue_made}
use Rattle.glue_context.proofs.items.glue_items.Goals as goal

pub front_groups-requires : goal.front_groups-requires
front_groups-requires g c =
    let s = c.args.settings.now in
    let l = c.args.lowered.now in
    let definable = is_definable s c.args.names.now l in
    let own = own_imports s l.«module» l.wit l.aux in record {
      bindable = rw c.in_ok-indexed.ensures.same c.requires.bindable;
      definable = rw (c.in_ok-indexed.ensures.same, c.as_slice-2.ensures.value) (all_moved definable own _ c.in_ok-places.ensures.sorted c.requires.definable);
      declarable = rw c.in_ok-indexed.ensures.same c.requires.declarable;
      named = rw c.in_ok-indexed.ensures.same c.requires.named;
      apart = rw c.in_ok-indexed.ensures.same c.requires.apart;
    }

pub returns : goal.returns
returns g c =
    let made = c.in_ok-items.ensures.items in
    let pairs = c.in_ok-pairs.pairs.items in
    let places = map (λ (id : ImportId). id.0) c.in_ok-places.places.items in
    record {
      items = glue_made c.args.settings.now c.args.names.now c.args.lowered.now pairs places c.in_ok-called.called (frame_by c.in_ok-frame.frame)
          c.in_ok-groups.groups c.in_ok-front.front c.in_ok-items.items made.0 c.in_ok-loading.loading c.in_ok-parts.parts
          c.in_ok-pairs.ensures.sorted
          c.in_ok-places.ensures.sorted
          (rw c.as_slice.ensures.value at c.in_ok-called.ensures.listed)
          c.in_ok-frame.ensures.parts
          (rw (c.in_ok-indexed.ensures.same, c.as_slice-2.ensures.value, c.as_slice-3.ensures) at c.in_ok-groups.ensures.groups)
          c.in_ok-front.ensures.items
          made.1.0
          made.1.1
          (rw (c.has_start.ensures.test, ap (λ (f : Frame). f.strings) c.in_ok-frame.ensures.parts) at c.in_ok-loading.ensures.item)
          c.in_ok-parts.ensures.parts
          c.in_ok-parts.ensures.few;
    }
