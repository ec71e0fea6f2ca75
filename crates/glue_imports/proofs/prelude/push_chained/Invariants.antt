use Rattle.std.proofs.Common.{◌≡◌, ◌++◌, map, take}
use Rattle.glue_imports.specs.declared.part.Part.TheVariants.{Chained}
use Rattle.glue_imports.proofs.prelude.push_chained.Given as goal

abbrev pub invariant-loop-field : goal.invariant-loop-field
invariant-loop-field l = l.parts ≡ l.initial.parts ++ map Chained (take l.field-index l.fields)
