-- The bytes of a module are read as the module that its file is read as.
use Rattle.std.proofs.Common.{◌≡◌, length, Ok, refl, ap, ◌∙◌, le-ltb}
use Rattle.wasm_file.specs.Grammar.{parts_of}
use Rattle.wasm_file_laws.specs.FileFits.{file_bytes}
use Rattle.wasm_file_laws.proofs.FileAgain.{file_again}
use Rattle.wasm_core.specs.declared.types.ParseConfig.{ParseConfig}
use Rattle.wasm_core.specs.Contents.{Contents}
use Rattle.wasm_emission.specs.Emission.{filed, section_contents, bytes_of}
use Rattle.wasm_core.specs.Parsing.{longest, module_of}
use Rattle.wasm_core_laws.specs.Again.{again, IsWithinLimits}
use Rattle.wasm_core_laws.specs.ModuleFits.{IsModule}
use Rattle.wasm_core_laws.proofs.CustomsAgain.{sections_short}
use Rattle.wasm_core_laws.proofs.FiledFits.{filed_fits}
use Rattle.wasm_core_laws.proofs.ModuleAssembled.{module_assembled}

-- the bytes of a module are those of its file
same_bytes : (m : Contents) → bytes_of m ≡ file_bytes (filed m)
unfolding bytes_of section_contents
same_bytes m = refl

-- what the bytes of a module are read as
pub module_again : (config : ParseConfig) (m : Contents) → IsModule m → IsWithinLimits m → module_of config (bytes_of m) ≡ Ok (again config m)
unfolding module_of
module_again config m is within =
    let read = ap parts_of (same_bytes m) ∙ file_again (filed m) (filed_fits m is within.few) (sections_short m within.short) in
    rw (le-ltb longest (length (bytes_of m)) within.small, read) (ap Ok (module_assembled config m is within))
