use Rattle.wasm_core.proofs.Joined.{few_funcs}
use Rattle.wasm_core.proofs.assemble.add_funcs.Goals as goal

pub returns-clause-few : goal.returns-clause-few
returns-clause-few c = rw (c.in_ok-join_bodies.ensures, c.in_ok-import_all.ensures, c.requires.none) (few_funcs c.args.imports.now c.args.types.now c.args.bodies)
