-- What bytes are parsed as is a module, and is read again as itself.
use Rattle.std.proofs.Common.{◌≡◌, ℕ, ◌≤◌, true, List, length, None, Ok, sym, ap, subst, ◌∙◌}
use Rattle.wasm_bytes.specs.Reads.{AreBytes}
use Rattle.wasm_file.specs.declared.entries.Parts.{Parts}
use Rattle.wasm_file_laws.specs.FileFits.{AreFewEntries, FitsFile, AreJoined}
use Rattle.wasm_file_laws.proofs.FileFits.{file_found}
use Rattle.wasm_core.specs.Contents.{Contents}
use Rattle.wasm_emission.specs.Emission.{filed, too_large, bytes_of}
use Rattle.wasm_core.specs.Parsing.{longest, module_of}
use Rattle.wasm_core.specs.declared.types.ParseConfig.{ParseConfig}
use Rattle.wasm_core_laws.specs.Again.{again}
use Rattle.wasm_core_laws.specs.ModuleFits.{IsModule}
use Rattle.wasm_core_laws.proofs.AgainIsSame.{filled_is_same}
use Rattle.wasm_core_laws.proofs.Filled.{filled, assembled_is}
use Rattle.wasm_core_laws.proofs.ModuleAgain.{module_again}
use Rattle.wasm_core_laws.proofs.ParsedIsModule.{GivenFit, given_fits, filled_is_module, filled_is_small, parsed_of}

-- the lists of a file that make a module, with what is known of them
pub record IsParsed (config : ParseConfig) (m : Contents) : Type 0 where
  pub parts : Parts
  pub fits : FitsFile parts
  pub joined : AreJoined parts
  pub customs : GivenFit parts
  pub is : filled config parts ≡ m

-- a module that is parsed is made of such lists
is_parsed : (config : ParseConfig) (bytes : List ℕ) (m : Contents) → AreBytes bytes → module_of config bytes ≡ Ok m → IsParsed config m
is_parsed config bytes m all is =
    let p = parsed_of config bytes m is in
    let f = file_found bytes p.0 all p.1 in
    record {
      parts = p.0;
      fits = f.fits;
      joined = f.joined;
      customs = given_fits p.0 f.customs_have_bytes;
      is = sym (assembled_is config p.0) ∙ p.2;
    }

-- What is parsed is a module.
pub parsed_is_module : (config : ParseConfig) (bytes : List ℕ) (m : Contents) → AreBytes bytes → module_of config bytes ≡ Ok m → IsModule m
parsed_is_module config bytes m all is = let p = is_parsed config bytes m all is in subst IsModule p.is (filled_is_module config p.parts p.fits p.customs)

-- It has few entries.
pub parsed_is_small : (config : ParseConfig) (bytes : List ℕ) (m : Contents) → AreBytes bytes → module_of config bytes ≡ Ok m → AreFewEntries (filed m)
parsed_is_small config bytes m all is = let p = is_parsed config bytes m all is in subst (λ m. AreFewEntries (filed m)) p.is (filled_is_small config p.parts p.fits p.customs)

-- It is read again as itself.
pub parsed_is_itself : (config : ParseConfig) (bytes : List ℕ) (m : Contents) → AreBytes bytes → config.names ≡ true → config.producers ≡ true → module_of config bytes ≡ Ok m → again config m ≡ m
parsed_is_itself config bytes m all names producers is =
    let p = is_parsed config bytes m all is in
    subst (λ m. again config m ≡ m) p.is (filled_is_same config p.parts (filled_is_module config p.parts p.fits p.customs) p.joined names producers)

-- Its bytes are read as it.
pub parsed_again : (config : ParseConfig) (bytes : List ℕ) (m : Contents) → AreBytes bytes → config.names ≡ true → config.producers ≡ true → module_of config bytes ≡ Ok m → too_large m ≡ None → length (bytes_of m) ≤ longest → module_of config (bytes_of m) ≡ Ok m
parsed_again config bytes m all names producers is short small =
    module_again config m (parsed_is_module config bytes m all is) (record { few = parsed_is_small config bytes m all is; short = short; small = small })
    ∙ ap Ok (parsed_is_itself config bytes m all names producers is)
