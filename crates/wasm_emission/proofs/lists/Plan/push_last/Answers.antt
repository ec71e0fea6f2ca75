use Rattle.std.proofs.Common.{append_assoc}
use Rattle.wasm_file.specs.Spelling.{last_sections}
use Rattle.wasm_emission.specs.Emission.{live, filed_by, file_elem, file_segment}
use Rattle.wasm_emission.proofs.Filed.{all_filed}
use Rattle.wasm_emission.proofs.lists.Plan.push_last.Goals as goal

pub returns : goal.returns
unfolding last_sections filed_by
returns c =
    let n = c.args.self.now.numbers.now in
    let m = c.args.self.now.module.now in
    rw (c.in_ok-push_list-3.ensures, c.in_ok-push_list-2.ensures, c.in_ok-push_data_count.ensures, c.in_ok-push_list.ensures, c.in_ok-push_start.ensures, c.elems.ensures, c.segments.ensures, c.funcs.ensures, c.segments-2.ensures, all_filed (file_elem n) (live m.elems), all_filed (file_segment n) (live m.segments)) (simp append_assoc)
