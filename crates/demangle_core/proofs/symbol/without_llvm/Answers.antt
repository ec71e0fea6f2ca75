use Rattle.std.proofs.Common.{◌∙◌, sym, ap}
use Rattle.demangle_core.specs.Symbol.{is_llvm_suffix}
use Rattle.demangle_core.proofs.Symbols.{one_stays}
use Rattle.demangle_core.proofs.symbol.without_llvm.Goals as goal

pub loop-place-preserved : goal.loop-place-preserved
loop-place-preserved c =
    let other = ap is_llvm_suffix (sym c.split_at.ensures.back) ∙ sym c.is_llvm_suffix.ensures.test ∙ c.if-is_llvm_suffix.false in
    one_stays c.args.name.now c.loop-place.place c.loop-place-test.true other ∙ c.loop-place.invariant
