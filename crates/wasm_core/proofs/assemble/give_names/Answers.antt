use Rattle.std.proofs.Common.{◌≡◌, ◌∙◌, fold, arith}
use Rattle.std.proofs.lemmas.Grind.{common_steps}
use Rattle.wasm_core.specs.Parsing.{name_given}
use Rattle.wasm_core.proofs.Named.{names_given}
use Rattle.wasm_core.proofs.assemble.give_names.Goals as goal

pub returns : goal.returns
returns c =
    let given : c.loop-func.funcs.items ≡ fold name_given c.args.funcs.now.items c.args.names = grind (arith, common_steps) in
    given ∙ names_given c.args.names c.args.funcs.now.items
