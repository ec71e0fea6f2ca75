use Rattle.std.proofs.Common.{◌≡◌, IfOk, ℕ, List, subst}
use Rattle.glue_helpers.specs.Arrays.{adding_item}
use Rattle.glue_helpers.specs.Numbered.{data_view_name, pass_values_name, add_name}
use Rattle.glue_helpers.specs.declared.arrays.TheConstants as arrays
use Rattle.glue_helpers.proofs.arrays.pass_values_by_table.Goals as goal

-- The three names are those of the definition.
pub returns : goal.returns
returns c =
    let text = arrays.PASS_VALUES_BY_TABLE.now in
    let name : c.in_ok-name.name ≡ pass_values_name c.args.memory = c.in_ok-name.ensures.name in
    let view : c.in_ok-view.view ≡ data_view_name c.args.memory = c.in_ok-view.ensures.name in
    let add : c.in_ok-add.add ≡ add_name c.args.table = c.in_ok-add.ensures.name in
    let own = pass_values_name c.args.memory in
    record {
      item =
          subst (λ (x : List ℕ). IfOk c.adding_item.result (λ item. item ≡ adding_item own (data_view_name c.args.memory) x text)) add
          (subst (λ (x : List ℕ). IfOk c.adding_item.result (λ item. item ≡ adding_item own x c.in_ok-add.add text)) view
          (subst (λ (x : List ℕ). IfOk c.adding_item.result (λ item. item ≡ adding_item x c.in_ok-view.view c.in_ok-add.add text)) name
          c.adding_item.ensures.item));
    }
