use Rattle.std.proofs.Common.{ap, ◌∙◌, find}
use Rattle.std.specs.Prelude.{Some, option_map}
use Rattle.glue_shared.specs.Names.{is_one_of}
use Rattle.glue_faults.specs.declared.fault.Fault.TheVariants as faults
use Rattle.glue_published.specs.Fixed.{is_fixed_thing}
use Rattle.glue_published.specs.Sets.{holds}
use Rattle.glue_published.proofs.FixedNames.{found_same}
use Rattle.glue_published.proofs.fixed.fixed_thing.Goals as goal

pub returns : goal.returns
returns c =
    let settings = c.args.settings.now in
    let own = c.args.own.now in
    let found = found_same settings (holds c.in_ok-own.own) (is_one_of own) c.in_ok-own.ensures.names c.as_slice.result.now
    ∙ ap (find (is_fixed_thing settings (is_one_of own))) (c.as_slice.ensures ∙ c.in_ok-things.ensures.things) in
    record {
      fault = ap (λ name. Some (faults.FixedExport name)) c.in_ok-copy-in-Some.ensures.equal
          ∙ ap (option_map (λ t. faults.FixedExport t.qualified)) (c.in-Some.ensures.first ∙ found);
    }
