use Rattle.std.proofs.Common.{append_assoc}
use Rattle.wasm_file.specs.Spelling.{middle_sections}
use Rattle.wasm_emission.specs.Emission.{live, filed_by, file_export}
use Rattle.wasm_emission.proofs.Filed.{all_filed}
use Rattle.wasm_emission.proofs.lists.Plan.push_middle.Goals as goal

pub returns : goal.returns
unfolding middle_sections filed_by
returns c = rw (c.in_ok-push_list-4.ensures, c.in_ok-push_list-3.ensures, c.in_ok-push_list-2.ensures, c.in_ok-push_list.ensures, c.memories.ensures, c.tags.ensures, c.globals.ensures, c.exports.ensures, all_filed (file_export c.args.self.now.numbers.now) (live c.args.self.now.module.now.exports)) (simp append_assoc)
