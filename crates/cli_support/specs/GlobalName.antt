-- Which names the global of a script can't have.
use Rattle.std.specs.Prelude.{ℕ, ◌==◌, Bool, true, false, not, ◌&&◌, ◌||◌, List, [], ◌∷◌, codes, length, take, drop, bytes_eq, Option, Some, None, if◌then◌else◌}
use Rattle.std.specs.List.{list_all, list_any}
use Rattle.std.specs.Char.{is_ascii_digit}
use Rattle.glue_words.specs.Ident.{is_ident}
use Rattle.glue_shared.specs.declared.names.TheConstants.{HOSTS, HELPER_NAMES, MEMORY_NAMES, TABLE_NAMES, TARGET_NAMES}
use Rattle.glue_shared.specs.declared.settings.Target.{Target}
use Rattle.glue_shared.specs.declared.settings.Target.TheVariants as target
use Rattle.cli_support.specs.declared.fault.SetFault.{SetFault}
use Rattle.cli_support.specs.declared.fault.SetFault.TheVariants as fault

-- a number in decimal, without leading zeros
abbrev pub is_decimal : List ℕ → Bool
is_decimal [] = false
is_decimal (d ∷ []) = is_ascii_digit d
is_decimal (d ∷ ds) = is_ascii_digit d && (not (d == 48) && list_all is_ascii_digit ds)

-- a text with a number after it
abbrev pub is_numbered : List ℕ → List ℕ → Bool
is_numbered name stem = bytes_eq (take (length stem) name) stem && is_decimal (drop (length stem) name)

-- a name that a glue file may bind, whatever memories, tables and imports its module has
abbrev pub is_fixed : List ℕ → Bool
is_fixed name =
    (list_any (λ word. bytes_eq word.now name) TARGET_NAMES || list_any (λ word. bytes_eq word.now name) HELPER_NAMES)
    || (list_any (λ stem. is_numbered name stem.now) MEMORY_NAMES
    || (list_any (λ stem. is_numbered name stem.now) TABLE_NAMES
    || is_numbered name (codes "import")))

-- no identifier, a name of every host, or one that a glue file may bind
unfoldable pub is_bad_global : List ℕ → Bool
is_bad_global name = not (is_ident name) || (list_any (λ word. bytes_eq word.now name) HOSTS || is_fixed name)

-- the files are a script's
abbrev pub is_no_modules : Target → Bool
is_no_modules (target.NoModules global) = true
is_no_modules (target.Bundler browser_only) = false
is_no_modules target.Web = false
is_no_modules (target.Node is_module) = false
is_no_modules target.Deno = false
is_no_modules target.Module = false
is_no_modules target.Emscripten = false

-- why the global can't be set to a name, if it can't
abbrev pub global_fault : List ℕ → Target → Option SetFault
global_fault name t =
    if is_bad_global name then Some (fault.BadGlobalName name)
    else (if is_no_modules t then None
    else Some fault.NotNoModules)
