-- What the texts of helpers depend on: the settings, and the names of the exports that give memories, the table of references and its functions,
-- the function that takes what imports throw, and the one that destroys closures.
use Rattle.std.specs.Prelude.{ℕ, ◌+◌, ◌^◌, nat_le, Bool, true, false, ◌&&◌, List, [], ◌∷◌, length, Option, Some, None, option_map, if◌then◌else◌}
use Rattle.values.specs.Map.{look_up}
use Rattle.wasm_core.specs.Contents.{Contents}
use Rattle.wasm_core.specs.declared.types.Memory.{Memory}
use Rattle.wasm_core.specs.entries.ExportItem.{ExportItem}
use Rattle.wasm_core.specs.entries.ExportItem.TheVariants as items
use Rattle.glue_shared.specs.declared.description.Lowered.{Lowered}
use Rattle.glue_shared.specs.declared.name_map.NameMap.{NameMap}
use Rattle.glue_shared.specs.declared.settings.EncodeInto.{EncodeInto}
use Rattle.glue_shared.specs.declared.settings.EncodeInto.TheVariants as encode
use Rattle.glue_shared.specs.declared.settings.Settings.{Settings}
use Rattle.glue_shared.specs.declared.settings.Target.{Target}
use Rattle.glue_shared.specs.declared.settings.Target.TheVariants as target
use Rattle.glue_steps.specs.declared.needed.ReferencePart.{ReferencePart}
use Rattle.glue_steps.specs.declared.needed.ReferencePart.TheVariants as part
use Rattle.glue_steps.specs.Needed.{destroyer_item, part_item, store_item}
use Rattle.glue_steps.specs.Resolving.{item_order}
use Rattle.helper_table.specs.declared.parts.EncoderForm.{EncoderForm}
use Rattle.helper_table.specs.declared.parts.EncoderForm.TheVariants as encoder
use Rattle.helper_table.specs.declared.parts.HelperParts.{HelperParts}
use Rattle.helper_table.specs.declared.parts.TableExport.{TableExport}

-- the glue file is one for browsers alone
abbrev pub is_for_browsers : Target → Bool
is_for_browsers (target.Bundler browser_only) = true
is_for_browsers target.Web = true
is_for_browsers other = false

-- how strings are encoded
abbrev pub encoder_of : EncodeInto → EncoderForm
encoder_of encode.Test = encoder.Tested
encoder_of encode.Always = encoder.Own
encoder_of encode.Never = encoder.Copying

-- ---- exports

-- the name of the export that gives an item, where there is an item, and one was drawn
abbrev pub export_at : NameMap → Option ExportItem → Option (List ℕ)
export_at m None = None
export_at m (Some item) = look_up item_order m.wasm item

-- the memory at a place as an item, where it stands
abbrev pub memory_item : Option Memory → ℕ → Option ExportItem
memory_item None place = None
memory_item (Some memory) place = Some (items.Memory (record { 0 = place }))

-- the export of each memory that stands, the first of which has this place
abbrev pub memory_exports : NameMap → ℕ → List (Option Memory) → List (Option (List ℕ))
memory_exports m place [] = []
memory_exports m place (memory ∷ memories) = export_at m (memory_item memory place) ∷ memory_exports m (place + 1) memories

-- the table with its export, where it has one
abbrev pub table_export : NameMap → Option ExportItem → Option TableExport
table_export m None = None
table_export m (Some (items.Table id)) = option_map (λ (name : List ℕ). record { place = id.0; name = name }) (export_at m (Some (items.Table id)))
table_export m (Some other) = None

-- a part of the module, where values are kept in a table of references
abbrev pub reference_item : Settings → Lowered → ReferencePart → Option ExportItem
reference_item s l p = if s.externref then part_item l p else None

-- ids can name all memories and tables
abbrev pub are_few : Contents → Bool
are_few m = nat_le (length m.memories) (2 ^ 32) && nat_le (length m.tables) (2 ^ 32)

-- ---- what the texts depend on

abbrev pub helper_parts : Settings → Lowered → NameMap → HelperParts
helper_parts settings l m = record {
  debug = settings.debug;
  externref = settings.externref;
  browser = is_for_browsers settings.target;
  encoder = encoder_of settings.encode_into;
  memories = memory_exports m 0 l.«module».memories;
  table = table_export m (reference_item settings l part.Table);
  exn_store = export_at m (store_item l);
  externref_alloc = export_at m (reference_item settings l part.Alloc);
  externref_drop = export_at m (reference_item settings l part.Drop);
  externref_drop_slice = export_at m (reference_item settings l part.DropSlice);
  destroy_closure = export_at m (destroyer_item l);
}
