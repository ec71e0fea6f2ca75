use Rattle.std.proofs.Common.{◌≡◌, ◌++◌, map, take}
use Rattle.glue_imports.specs.declared.part.Part.TheVariants.{Property}
use Rattle.glue_imports.proofs.roots.push_fields.Given as goal

abbrev pub invariant-loop-field : goal.invariant-loop-field
invariant-loop-field l = l.parts ≡ l.initial.parts ++ map Property (take l.field-index l.fields)
