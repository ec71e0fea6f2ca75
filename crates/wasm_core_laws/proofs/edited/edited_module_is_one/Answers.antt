use Rattle.wasm_core_laws.proofs.EditedIsModule.{with_export_is_module, without_export_is_module, without_start_is_module, without_custom_is_module, with_processed_by_is_module}
use Rattle.wasm_core_laws.proofs.RenamedIsModule.{with_import_is_module, with_func_name_is_module}
use Rattle.wasm_core_laws.proofs.LocalizedIsModule.{localized_is_module}
use Rattle.wasm_core_laws.proofs.AddedIsModule.{with_func_is_module}
use Rattle.wasm_core_laws.proofs.edited.edited_module_is_one.Goals as goal

pub returns-clause-with_export : goal.returns-clause-with_export
returns-clause-with_export c = with_export_is_module

pub returns-clause-without_export : goal.returns-clause-without_export
returns-clause-without_export c = without_export_is_module

pub returns-clause-with_import : goal.returns-clause-with_import
returns-clause-with_import c = with_import_is_module

pub returns-clause-with_func_name : goal.returns-clause-with_func_name
returns-clause-with_func_name c = with_func_name_is_module

pub returns-clause-without_start : goal.returns-clause-without_start
returns-clause-without_start c = without_start_is_module

pub returns-clause-without_custom : goal.returns-clause-without_custom
returns-clause-without_custom c = without_custom_is_module

pub returns-clause-with_processed_by : goal.returns-clause-with_processed_by
returns-clause-with_processed_by c = with_processed_by_is_module

pub returns-clause-localized : goal.returns-clause-localized
returns-clause-localized c = localized_is_module

pub returns-clause-with_func : goal.returns-clause-with_func
returns-clause-with_func c = with_func_is_module
