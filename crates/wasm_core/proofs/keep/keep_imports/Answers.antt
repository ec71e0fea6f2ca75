use Rattle.std.proofs.Common.{◌<◌, rules, length}
use Rattle.wasm_reach.specs.Marks.{is_marked}
use Rattle.wasm_core.specs.Remainder.{kept_import}
use Rattle.wasm_core.proofs.Kept.{imports_step}
use Rattle.wasm_core.proofs.keep.keep_imports.Goals as goal

pub loop-place-preserved : goal.loop-place-preserved
loop-place-preserved c =
    let lt : c.loop-place.place < length c.args.imports.now.items = search rules in
    imports_step (kept_import (is_marked c.args.marks.now)) c.args.imports.now.items c.loop-place.imports.items c.keep_if.new.entries.items c.loop-place.place c.index.result.now c.is_kept-kept.result lt c.loop-place.invariant c.index.ensures c.is_kept-kept.ensures c.keep_if.ensures
