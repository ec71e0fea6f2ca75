use Rattle.glue_context.proofs.Common.{frame_by}
use Rattle.glue_context.proofs.Lists.{groups_made, nine_put}
use Rattle.glue_context.proofs.items.front_groups.Goals as goal

pub returns : goal.returns
returns g c =
    let lines = c.in_ok-lines.lines in
    let foreign = c.in_ok-foreign.foreign in
    let constants = c.in_ok-constants.constants in
    let declares = c.in_ok-declares.declares in
    let started = c.in_ok-start_group.start_group in
    let defines = c.in_ok-defines.defines in
    let ended = c.in_ok-end_group.end_group in
    let closures = c.in_ok-functions.functions in
    let lists = c.in_ok-lists.lists in
    record {
      groups = record {
        lines = lines;
        imported = c.in_ok-lines.ensures.lines;
        declares = declares;
        declared = c.in_ok-declares.ensures.items;
        defines = defines;
        defined = c.in_ok-defines.ensures.items;
        closures = closures;
        enclosed = c.in_ok-functions.ensures.items;
        lists = lists;
        listed = rw c.lowered.ensures.same at c.in_ok-lists.ensures.lists;
        numbered = rw c.as_slice.ensures at c.in_ok-foreign.ensures.few;
        are = groups_made c.args.basis.now.settings.now.stem (frame_by c.args.frame.now) c.args.called.now _ lines foreign constants declares started defines ended
            closures lists c.in_ok-start.start c.in_ok-end.end
            (nine_put lines foreign constants declares started defines ended closures lists c.new-groups.ensures c.in_ok-push.ensures.ok c.in_ok-push-2.ensures.ok
            c.in_ok-push-3.ensures.ok c.in_ok-push-4.ensures.ok c.in_ok-push-5.ensures.ok c.in_ok-push-6.ensures.ok c.in_ok-push-7.ensures.ok c.in_ok-push-8.ensures.ok
            c.in_ok-push-9.ensures.ok)
            (rw c.as_slice.ensures at c.in_ok-foreign.ensures.lines)
            c.in_ok-constants.ensures.constants
            c.in_ok-start_group.ensures.items
            c.in_ok-start.ensures.item
            c.in_ok-end_group.ensures.items
            (rw c.as_slice-2.ensures at c.in_ok-end.ensures.item);
      };
    }
