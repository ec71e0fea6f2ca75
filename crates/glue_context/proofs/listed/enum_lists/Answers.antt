use Rattle.glue_context.proofs.Common.{Bor, map}
use Rattle.glue_shared.specs.declared.aux.AuxStringEnum.{AuxStringEnum}
use Rattle.glue_context.proofs.listed.enum_lists.Goals as goal

pub returns : goal.returns
returns c = record {
  lists = record {
    enums = map (λ (e : Bor AuxStringEnum). e.now) c.in_ok-enums.enums.items;
    by_name = rw (c.in_ok-named.ensures.names, c.as_slice.ensures) at c.in_ok-enums.ensures.sorted;
    are = rw c.as_slice-2.ensures.value at c.in_ok-lists.ensures.items;
  };
}
