use Rattle.std.proofs.Common.{◌≡◌, ◌++◌, take}
use Rattle.glue_tree.specs.Plainly.{plain_exprs, plain_fields}
use Rattle.glue_tree.specs.Spelling.{is_none, listed, parts_of, fields_of}
use Rattle.glue_tree.proofs.spelling.+exprs.Given as goal

abbrev pub invariant-push_arguments-loop-argument : goal.invariant-push_arguments-loop-argument
invariant-push_arguments-loop-argument l = record {
  words : l.words ≡ l.initial.words ++ listed (parts_of (plain_exprs (take l.argument-index l.arguments)));
  first : l.is_first ≡ is_none (take l.argument-index l.arguments);
}

abbrev pub invariant-push_record-loop-field : goal.invariant-push_record-loop-field
invariant-push_record-loop-field l = record {
  words : l.words ≡ l.initial.words ++ listed (fields_of (plain_fields (take l.field-index l.fields)));
  first : l.is_first ≡ is_none (take l.field-index l.fields);
}
