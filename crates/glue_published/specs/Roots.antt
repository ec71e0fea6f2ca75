-- Names at which the glue file makes a namespace's object itself.
use Rattle.std.specs.Prelude.{◌≡◌, ◌↔◌, ℕ, Bool, true, not, ◌&&◌, List}
use Rattle.std.specs.List.{list_any}
use Rattle.std.specs.List.Sorted.{IsStrictlySortedBy}
use Rattle.std.specs.Str.{bytes_eq}
use Rattle.values.specs.Lists.{IsIn}
use Rattle.glue_shared.specs.declared.aux.WasmBindgenAux.{WasmBindgenAux}
use Rattle.glue_shared.specs.declared.settings.Settings.{Settings}
use Rattle.glue_published.specs.Reexports.{has_members}
use Rattle.glue_published.specs.Sets.{name_order}
use Rattle.glue_published.specs.Things.{published_things}

-- something is published below the name, and no re-export has it
abbrev pub is_root : Settings → WasmBindgenAux → List ℕ → Bool
is_root settings aux name =
    has_members (published_things settings aux) name && not (list_any (λ r. bytes_eq r.0 name) aux.reexports)

-- these are all such names, each once, in the order of their bytes
pub record AreRoots (settings : Settings) (aux : WasmBindgenAux) (names : List (List ℕ)) : Type 0 where
  pub rises : IsStrictlySortedBy name_order names
  pub all : (name : List ℕ) → IsIn name names ↔ (is_root settings aux name ≡ true)
