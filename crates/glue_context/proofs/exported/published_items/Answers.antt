use Rattle.glue_context.proofs.Common.{AuxExport, is_bindable, is_named}
use Rattle.glue_published.specs.Things.{stands_alone}
use Rattle.glue_public.proofs.TreeFacts.{never_refused}
use Rattle.glue_context.proofs.Lists.{all_filtered, have_items}
use Rattle.glue_context.proofs.exported.published_items.Goals as goal

pub each_function-requires-clause-bindable : goal.each_function-requires-clause-bindable
each_function-requires-clause-bindable g c =
    rw (c.as_slice-2.ensures.value, c.in_ok-lone.ensures.lone, c.as_slice.ensures, c.lowered.ensures.same)
    (all_filtered (is_bindable c.args.basis.now.settings.now c.args.basis.now.names.now c.args.indexed.now) (λ (e : AuxExport). stands_alone e.kind)
    c.args.indexed.now.aux.exports c.requires.bindable)

pub each_function-requires-clause-named : goal.each_function-requires-clause-named
each_function-requires-clause-named g c =
    rw (c.as_slice-2.ensures.value, c.in_ok-lone.ensures.lone, c.as_slice.ensures, c.lowered.ensures.same)
    (all_filtered (is_named c.args.basis.now.names.now) (λ (e : AuxExport). stands_alone e.kind) c.args.indexed.now.aux.exports c.requires.named)

pub unclashed_items-requires : goal.unclashed_items-requires
unclashed_items-requires g c =
    let settings = c.args.basis.now.settings.now in
    let names = c.args.basis.now.names.now in
    let l = c.args.indexed.now in
    let made = rw (c.as_slice-2.ensures.value, c.in_ok-lone.ensures.lone, c.as_slice.ensures, c.lowered.ensures.same) at c.in_ok-functions.ensures.functions in
    record {
      unclashed = rw c.lowered.ensures.same
          (never_refused settings l.aux names c.in_ok-functions.functions c.requires.apart (have_items settings names l _ c.in_ok-functions.functions made));
    }
