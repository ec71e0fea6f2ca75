-- The names that the proofs of this crate cite, passed on from one place. Declares nothing.
pub use Rattle.std.proofs.Common.{All, Bool, Bor, IsPermutation, List, None, Option, Ordering, Some, [], ap, append-nil, arith, bytes_eq, codes, false, filter_map, flat_map, fold, inl, inr, is_some, length, map, option_map, refl, rules, subst, suc, sym, take, true, true≢false, zero, ℕ, ◌++◌, ◌+◌, ◌-◌, ◌<◌, ◌==◌, ◌∙◌, ◌∷◌, ◌≡◌}
pub use Rattle.std.proofs.lemmas.Grind.{common_steps, flat_map-append}
pub use Rattle.std.proofs.lemmas.List.Concat.{flat_map_single}
pub use Rattle.std.proofs.lemmas.List.Elements.{All-head, All-nil, All-tail, filter_map-append}
pub use Rattle.std.proofs.lemmas.List.Sorted.{All-permutation, IsPermutation-map, IsPermutation-sym}
pub use Rattle.std.proofs.lemmas.Slice.Eq.{bytes_eq-Decides}
pub use Rattle.std.specs.List.{AllByRecursion, AllZip, list_all, list_any}
pub use Rattle.values.proofs.Members.{distinct_both, in_left, in_right}
pub use Rattle.values.specs.Lists.{AreApart, AreDistinct, IsAway, IsIn}
unfoldable pub use Rattle.glue_check.specs.Verdict.{unbuilt, verdict}
pub use Rattle.glue_check.specs.declared.files.FileFlags.{FileFlags}
pub use Rattle.glue_check.proofs.BuiltForm.{IsBuiltExport}
pub use Rattle.glue_names.proofs.Globals.{some_of}
pub use Rattle.glue_check.proofs.Steps.{HasSteps, IsDescribed, IsThere}
pub use Rattle.glue_steps.specs.Exported.{export_name, export_names}
pub use Rattle.printed_adapters.specs.Printed.{used_closures}
pub use Rattle.glue_lines.specs.Grouped.{AreImportLines, Imported}
pub use Rattle.glue_naming.specs.Listed.{drawn_imports}
pub use Rattle.glue_naming.specs.Naming.{AreNames, declared_name, is_named}
pub use Rattle.glue_context.specs.ClosureItems.{AreClosures, IsClosureItem, closure_item, is_declarable}
pub use Rattle.glue_context.specs.Defined.{IsDefined, defined_by, defined_places}
pub use Rattle.glue_context.specs.Edits.{AreFit, with_added, with_moved}
pub use Rattle.glue_context.specs.Foreign.{foreign_lines, foreign_modules, module_at, modules_from}
pub use Rattle.glue_context.specs.ExportedItems.{declaration_back, declaration_front, declaration_words, declare_item, note_lines}
pub use Rattle.glue_context.specs.ImportedItems.{line_form, vendor_items}
pub use Rattle.glue_context.specs.DefinedItems.{IsDefineItem, is_definable}
pub use Rattle.glue_context.specs.Functions.{Form, IsFunctionOf, default_names}
pub use Rattle.glue_context.specs.Items.{AreFunctionItems, AreTreeItems, IsArranged, IsGlue, all_items, frame_by, frame_of, front_items, joined_groups, is_bindable}
pub use Rattle.glue_context.specs.Linked.{IsLinked, IsPrescribed}
pub use Rattle.glue_context.specs.Rewritten.{edits_of, move_of, rewritten}
pub use Rattle.glue_shared.specs.Names.{described_hosts, fixed_public, global_names, import_names, is_one_of, js_import, live_count, names_of}
unfoldable pub use Rattle.glue_shared.specs.Names.{fixed_names, helper_names, host_names, own_imports}
pub use Rattle.glue_shared.specs.declared.aux.AuxExport.{AuxExport}
pub use Rattle.glue_shared.specs.declared.description.Lowered.{Lowered}
pub use Rattle.glue_shared.specs.declared.name_map.NameMap.{NameMap}
pub use Rattle.glue_shared.specs.declared.import.AuxImport.{AuxImport}
pub use Rattle.glue_shared.specs.declared.names.TheConstants.{HOSTS, TARGET_NAMES}
pub use Rattle.glue_shared.specs.declared.settings.Settings.{Settings}
pub use Rattle.glue_shared.specs.declared.settings.Target.TheVariants.{Deno}
pub use Rattle.glue_steps.specs.Resolving.{callback_name, entry_at}
pub use Rattle.glue_steps.specs.declared.step.Step.{Step}
pub use Rattle.glue_targets.specs.Published.{IsPublished, fixed_by, fixed_published, is_exported, published_by, published_pairs}
pub use Rattle.glue_targets.specs.Targets.{Frame, frame_end, frame_start, loading_item}
pub use Rattle.glue_tree.proofs.Functions.{IsFrame}
pub use Rattle.glue_words.proofs.Belonging.{AllItems, Belongs, Context}
pub use Rattle.glue_words.specs.Linking.{AreAmong, EachItem, IsExported}
pub use Rattle.glue_words.specs.Names.{bound_in, bound_name, bound_names, hosted_in, is_export_key, spliced_in, used_in, wasm_in}
pub use Rattle.glue_words.specs.declared.item.Item.{Item}
pub use Rattle.wasm_core.specs.Contents.{Contents, IsLive}
unfoldable pub use Rattle.wasm_core.specs.Edits.{with_import}
pub use Rattle.wasm_core.specs.declared.types.Import.{Import}
pub use Rattle.wasm_core.specs.declared.types.ImportKind.{ImportKind}
pub use Rattle.wasm_core.specs.ids.ImportId.{ImportId}
