-- The lists of a file that was written are assembled as the module again.
use Rattle.std.proofs.Common.{◌≡◌, Bool, true, false, length, map, Some, if◌then◌else◌, refl, ap, ◌∙◌}
use Rattle.std.proofs.lemmas.List.{length-map}
use Rattle.wasm_file.specs.declared.entries.Names.{Names}
use Rattle.wasm_file_laws.specs.FileFits.{joined_file}
use Rattle.wasm_core.specs.declared.types.ParseConfig.{ParseConfig}
use Rattle.wasm_core.specs.Contents.{Contents}
use Rattle.wasm_emission.specs.Emission.{filed_by, filed, file_names}
use Rattle.wasm_core.specs.Parsing.{all_funcs, all_names, with_names, no_names, assembled}
use Rattle.wasm_emission.specs.Renumbering.{numbering}
use Rattle.wasm_core_laws.specs.Again.{all_there, in_order, func_again, if_wanted, again, IsWithinLimits}
use Rattle.wasm_core_laws.specs.ModuleFits.{IsModule, func_imported}
use Rattle.wasm_core_laws.proofs.AssembledAgain.{func_unnamed, funcs_again, tables_again, memories_again, globals_again, tags_again, imports_again}
use Rattle.wasm_core_laws.proofs.NamesAgain.{funcs_named_again}
use Rattle.wasm_core_laws.proofs.CustomsAgain.{names_again, producers_again, customs_again}

-- the fields of two modules are the same
record AreSame (a b : Contents) : Type 0 where
  types : a.types ≡ b.types
  funcs : a.funcs ≡ b.funcs
  tables : a.tables ≡ b.tables
  memories : a.memories ≡ b.memories
  globals : a.globals ≡ b.globals
  tags : a.tags ≡ b.tags
  imports : a.imports ≡ b.imports
  exports : a.exports ≡ b.exports
  elems : a.elems ≡ b.elems
  segments : a.segments ≡ b.segments
  customs : a.customs ≡ b.customs
  start : a.start ≡ b.start
  name : a.name ≡ b.name
  producers : a.producers ≡ b.producers
  config : a.config ≡ b.config

-- then these are one module
one_module : (a b : Contents) → AreSame a b → a ≡ b
one_module a b h = λ i. record {
  types = h.types i;
  funcs = h.funcs i;
  tables = h.tables i;
  memories = h.memories i;
  globals = h.globals i;
  tags = h.tags i;
  imports = h.imports i;
  exports = h.exports i;
  elems = h.elems i;
  segments = h.segments i;
  customs = h.customs i;
  start = h.start i;
  name = h.name i;
  producers = h.producers i;
  config = h.config i;
}

-- the name of the module, where names are wanted
name_wanted : (wanted : Bool) (n : Names) → (if wanted then n else no_names).«module» ≡ if_wanted wanted n.«module»
name_wanted true n = refl
name_wanted false n = refl

module _ (m : Contents) (module_fits : IsModule m) (within : IsWithinLimits m) where
  -- as many functions are read as were written
  all_funcs_counted : length (all_funcs (joined_file (filed m))) ≡ length (in_order func_imported m.funcs)
  all_funcs_counted =
      let fs = in_order func_imported m.funcs in
      ap length (funcs_again m module_fits) ∙ length-map (map (func_unnamed m) fs) Some ∙ length-map fs (func_unnamed m)

  -- the names of the file are read again
  names_read : all_names (length (all_funcs (joined_file (filed m)))) (filed m).customs ≡ (if m.config.names then file_names m (numbering m) else no_names)
  names_read = ap (λ n. all_names n (filed m).customs) all_funcs_counted ∙ names_again m module_fits within

  -- the functions get their names again
  funcs_named : with_names (all_names (length (all_funcs (joined_file (filed m)))) (filed m).customs).funcs (all_funcs (joined_file (filed m))) ≡ all_there (func_again m) (in_order func_imported m.funcs)
  funcs_named =
      ap (λ (n : Names). with_names n.funcs (all_funcs (joined_file (filed m)))) names_read
      ∙ ap (with_names (if m.config.names then file_names m (numbering m) else no_names).funcs) (funcs_again m module_fits)
      ∙ funcs_named_again m

  -- each field is the module's again
  fields_again : (config : ParseConfig) → AreSame (assembled config (joined_file (filed m))) (again config m)
  unfolding assembled again filed_by
  fields_again config = record {
    types = refl;
    funcs = funcs_named;
    tables = tables_again m module_fits;
    memories = memories_again m module_fits;
    globals = globals_again m module_fits;
    tags = tags_again m module_fits;
    imports = imports_again m module_fits;
    exports = refl;
    elems = refl;
    segments = refl;
    customs = customs_again m config.keep_debug;
    start = refl;
    name = ap (λ (n : Names). n.«module») names_read ∙ name_wanted m.config.names (file_names m (numbering m));
    producers = producers_again m module_fits within;
    config = refl;
  }

-- The lists of a file that was written are assembled as the same live entries, renumbered in the order of emission.
pub module_assembled : (config : ParseConfig) (m : Contents) → IsModule m → IsWithinLimits m → assembled config (joined_file (filed m)) ≡ again config m
module_assembled config m module_fits within = one_module (assembled config (joined_file (filed m))) (again config m) (fields_again m module_fits within config)
