use Rattle.wasm_file_laws.proofs.EntriesAgain.{func_type_again, type_id_again, func_id_again, limits_again, table_again, tag_again, import_again, export_again, global_again, elem_again, segment_again, custom_again}
use Rattle.wasm_file_laws.proofs.entries.entries_are_read_again.Goals as goal

pub returns-clause-func_type : goal.returns-clause-func_type
returns-clause-func_type c = func_type_again

pub returns-clause-type_id : goal.returns-clause-type_id
returns-clause-type_id c = type_id_again

pub returns-clause-func_id : goal.returns-clause-func_id
returns-clause-func_id c = func_id_again

pub returns-clause-limits : goal.returns-clause-limits
returns-clause-limits c = limits_again

pub returns-clause-table : goal.returns-clause-table
returns-clause-table c = table_again

pub returns-clause-tag : goal.returns-clause-tag
returns-clause-tag c = tag_again

pub returns-clause-imported : goal.returns-clause-imported
returns-clause-imported c = import_again

pub returns-clause-exported : goal.returns-clause-exported
returns-clause-exported c = export_again

pub returns-clause-global : goal.returns-clause-global
returns-clause-global c = global_again

pub returns-clause-elem : goal.returns-clause-elem
returns-clause-elem c = elem_again

pub returns-clause-segment : goal.returns-clause-segment
returns-clause-segment c = segment_again

pub returns-clause-custom : goal.returns-clause-custom
returns-clause-custom c = custom_again
