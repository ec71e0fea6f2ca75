use Rattle.std.proofs.Common.{append_assoc}
use Rattle.wasm_file.specs.Spelling.{first_sections}
use Rattle.wasm_emission.specs.Emission.{live, filed_by}
use Rattle.wasm_emission.proofs.Filed.{each_filed}
use Rattle.wasm_emission.proofs.lists.Plan.push_first.Goals as goal

pub returns : goal.returns
unfolding first_sections filed_by
returns c = rw (c.in_ok-push_list-4.ensures, c.in_ok-push_list-3.ensures, c.in_ok-push_list-2.ensures, c.in_ok-push_list.ensures, c.types.ensures, c.imports.ensures, c.funcs.ensures, c.tables.ensures, each_filed (live c.args.self.now.module.now.types)) (simp append_assoc)
