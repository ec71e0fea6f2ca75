use Rattle.std.proofs.Common.{◌≡◌, ◌∷◌, arith}
use Rattle.std.specs.String.{string_bytes}
use Rattle.std.proofs.lemmas.Grind.{common_steps}
use Rattle.glue_words.specs.Ident.{cleaned_name}
use Rattle.glue_words.proofs.Idents.{underscored_ident}
use Rattle.glue_words.proofs.ident.to_valid_ident.Goals as goal

pub returns-clause-ident : goal.returns-clause-ident
returns-clause-ident c =
    let e : string_bytes c.push_str.new.self ≡ 95 ∷ cleaned_name c.args.name.now = grind (arith, common_steps) in
    rw e (underscored_ident c.args.name.now)
