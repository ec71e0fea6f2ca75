-- The roots of a description are entries of its module.
use Rattle.std.proofs.Common.{◌≡◌, List, [], ◌∷◌, Bool, true, false, cond, refl, All}
use Rattle.std.specs.List.{filter}
use Rattle.std.proofs.lemmas.List.Elements.{All-nil, All-cons}
use Rattle.wasm_core.specs.entries.ExportItem.{ExportItem}
use Rattle.wasm_core.specs.Contents.{Contents}
use Rattle.wasm_core.specs.Edits.{IsLiveItem}
use Rattle.glue_context.proofs.Edited.{item_from}
use Rattle.glue_shared.specs.Roots.{is_live_item, named_items, roots_of}
use Rattle.glue_shared.specs.declared.description.Lowered.{Lowered}

module _ (m : Contents) where
  live_case : (item : ExportItem) (xs : List ExportItem) (b : Bool) → is_live_item m item ≡ b → All (IsLiveItem m) (filter (is_live_item m) xs) → All (IsLiveItem m) (cond b (item ∷ filter (is_live_item m) xs) (filter (is_live_item m) xs))
  live_case item xs true e rest = All-cons (IsLiveItem m) item (filter (is_live_item m) xs) (item_from m item e) rest
  live_case item xs false e rest = rest

  all_live : (xs : List ExportItem) → All (IsLiveItem m) (filter (is_live_item m) xs)
  all_live [] = All-nil (IsLiveItem m)
  all_live (item ∷ xs) = live_case item xs (is_live_item m item) refl (all_live xs)

-- each root is an entry
pub live_roots : (l : Lowered) → All (IsLiveItem l.«module») (roots_of l)
unfolding roots_of
live_roots l = all_live l.«module» (named_items l.«module» l.wit l.aux)
