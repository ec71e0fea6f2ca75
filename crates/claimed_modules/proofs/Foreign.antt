-- The first clash of a foreign module, by lists that are known.
use Rattle.std.proofs.Common.{◌≡◌, ℕ, List, Option, ap, ◌∙◌}
use Rattle.wasm_core.specs.declared.types.Import.{Import}
use Rattle.glue_shared.specs.declared.description.Lowered.{Lowered}
use Rattle.glue_shared.specs.declared.settings.Settings.{Settings}
use Rattle.glue_shared.specs.Names.{implemented, own_imports}
use Rattle.claimed_modules.specs.declared.modules.Claimed.{Claimed}
use Rattle.claimed_modules.specs.Modules.{claims, placed_clash, first_placed, foreign_module}

-- the first clash of a foreign module, by the lists that are known
pub foreign_known : (s : Settings) (l : Lowered) (own paired : List ℕ) (known listed : List Claimed) (imports : List (Option Import))
    → own ≡ own_imports s l.«module» l.wit l.aux → paired ≡ implemented l.wit → known ≡ claims s l → listed ≡ known → imports ≡ l.«module».imports
    → first_placed (placed_clash own paired listed) 0 imports ≡ foreign_module s l
unfolding foreign_module
foreign_known s l own paired known listed imports mine pairs claimed same is =
    ap (first_placed (placed_clash own paired listed) 0) is
    ∙ ap (λ (ns : List ℕ). first_placed (placed_clash ns paired listed) 0 l.«module».imports) mine
    ∙ ap (λ (ns : List ℕ). first_placed (placed_clash (own_imports s l.«module» l.wit l.aux) ns listed) 0 l.«module».imports) pairs
    ∙ ap (λ (cs : List Claimed). first_placed (placed_clash (own_imports s l.«module» l.wit l.aux) (implemented l.wit) cs) 0 l.«module».imports) (same ∙ claimed)
