-- Items that are linked with a module.
use Rattle.std.specs.Prelude.{ℕ, Bool, List, [], ◌∷◌, ◌++◌, Option, Some, None}
use Rattle.values.specs.Lists.{IsIn}
use Rattle.glue_words.specs.declared.word.Word.{Word}
use Rattle.glue_words.specs.declared.item.Item.{Item}
use Rattle.glue_words.specs.Names.{bound_in}
use Rattle.glue_words.specs.Linking.{EachItem, IsBoundOnce, IsResolved, IsLocal, IsExported, IsDescribed, IsSpaced}
use Rattle.glue_shared.specs.declared.settings.Settings.{Settings}
use Rattle.wasm_core.specs.Contents.{Contents}
use Rattle.glue_steps.specs.Exported.{export_names}
use Rattle.glue_targets.specs.RoleWords.{role_words}
use Rattle.glue_targets.specs.Targets.{Frame}
use Rattle.glue_context.specs.FrameIn.{frame_in}

-- one of these texts, where there are any to choose from
abbrev pub IsOneOf : List Word → Option (List (List Word)) → Type 0
IsOneOf words None = Unit {0}
IsOneOf words (Some texts) = IsIn words texts

-- the item has the words that its role asks for, for this frame
abbrev pub IsPrescribed : Settings → Bool → Frame → List Item → Item → List Item → Type 0
IsPrescribed settings has_start frame before item after =
    IsOneOf item.words (role_words settings has_start frame (before ++ item ∷ after) item.role (bound_in item.words))

-- The items are linked with the module: each name is declared once and is no host's, each name that is used is declared or the
-- host's, locals are their own, each export that is taken is there, items of a fixed form have its words, computed keys are
-- described, and no two neighbouring words run together in the text. The frame and loading are those of the module: what they go by is read off
-- its imports (`frame_in`); only whether there was a start function is handed in.
pub record IsLinked (settings : Settings) (hosts keys : List (List ℕ)) (m : Contents) (items : List Item) (has_start : Bool) : Type 0 where
  pub distinct : EachItem (IsBoundOnce hosts) [] items
  pub resolved : EachItem (IsResolved hosts) [] items
  pub local : EachItem IsLocal [] items
  pub exported : EachItem (IsExported (export_names m)) [] items
  pub prescribed : EachItem (IsPrescribed settings has_start (frame_in settings.stem m)) [] items
  pub described : EachItem (IsDescribed keys) [] items
  pub spaced : EachItem IsSpaced [] items
