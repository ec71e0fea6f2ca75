use Rattle.std.proofs.Common.{ap}
use Rattle.wasm_file.specs.declared.entries.ExportItem.TheVariants as items
use Rattle.wasm_emission.proofs.lists.file_item.Goals as goal

pub returns-in-Func : goal.returns-in-Func
returns-in-Func c = rw c.in-Func.is (ap (λ i. items.Func (record { 0 = i })) c.number_at.ensures)

pub returns-in-Table : goal.returns-in-Table
returns-in-Table c = rw c.in-Table.is (ap (λ i. items.Table (record { 0 = i })) c.number_at-in-Table.ensures)

pub returns-in-Memory : goal.returns-in-Memory
returns-in-Memory c = rw c.in-Memory.is (ap (λ i. items.Memory (record { 0 = i })) c.number_at-in-Memory.ensures)

pub returns-in-Global : goal.returns-in-Global
returns-in-Global c = rw c.in-Global.is (ap (λ i. items.Global (record { 0 = i })) c.number_at-in-Global.ensures)

pub returns-in-Tag : goal.returns-in-Tag
returns-in-Tag c = rw c.in-Tag.is (ap (λ i. items.Tag (record { 0 = i })) c.number_at-in-Tag.ensures)
