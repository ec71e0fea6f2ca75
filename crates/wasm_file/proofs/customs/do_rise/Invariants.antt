use Rattle.std.proofs.Common.{◌≡◌, drop}
use Rattle.wasm_file.specs.Customs.{rise_from}
use Rattle.wasm_file.proofs.customs.do_rise.Given as goal

abbrev pub invariant-loop-func : goal.invariant-loop-func
invariant-loop-func l = rise_from l.least (drop l.func-index l.names) ≡ rise_from 0 l.names
