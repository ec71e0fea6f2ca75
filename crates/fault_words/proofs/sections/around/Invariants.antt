use Rattle.std.proofs.Common.{◌≡◌, ◌-◌, []}
use Rattle.fault_words.specs.Sections.{around}
use Rattle.fault_words.proofs.sections.around.Given as goal

abbrev pub invariant-loop : goal.invariant-loop
invariant-loop l = around (l.end - l.counter) l.left l.before l.rest ≡ around l.end l.fn.place [] l.fn.bytes
