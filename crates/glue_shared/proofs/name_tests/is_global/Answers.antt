use Rattle.std.proofs.Common.{◌≡◌, ◌∙◌, ◌||◌, ℕ, List, Bool, true, false, bytes_eq, refl, sym, ap}
use Rattle.glue_shared.specs.declared.settings.Target.{Target}
use Rattle.glue_shared.specs.Names.{is_one_of, global_names}
use Rattle.glue_shared.proofs.name_tests.is_global.Goals as goal

or_false : (b : Bool) → b ≡ (b || false)
or_false true = refl
or_false false = refl

pub returns-in-NoModules : goal.returns-in-NoModules
returns-in-NoModules c =
    c.eq.ensures
    ∙ ap (λ (bs : List ℕ). bytes_eq bs c.args.name.now) c.as_str.ensures
    ∙ or_false (bytes_eq c.in-NoModules.global c.args.name.now)
    ∙ sym (ap (λ (t : Target). is_one_of (global_names t) c.args.name.now) c.in-NoModules.is)
