use Rattle.std.proofs.Common.{subst}
use Rattle.std.specs.Str.{IsUtf8}
use Rattle.std.proofs.lemmas.Str.{is_utf8-from_IsUtf8}
use Rattle.wasm_sections_laws.proofs.split.name_is_utf8.Goals as goal

pub returns : goal.returns
returns c = is_utf8-from_IsUtf8 c.args.custom.now.name (subst IsUtf8 c.as_str-name.ensures c.as_str-name.utf8)
