-- Words that may stand anywhere in a file, and items that are linked, as far as words decide it.
use Rattle.std.specs.Prelude.{◌≡◌, ℕ, Bool, true, false, List, [], ◌∷◌, None, IsTrue}
use Rattle.glue_words.specs.declared.word.Word.{Word}
use Rattle.glue_words.specs.declared.word.Word.TheVariants.{Gap}
use Rattle.glue_words.specs.declared.item.Item.{Item}
use Rattle.glue_words.specs.Spacing.{is_open}
use Rattle.glue_words.specs.Linking.{EachItem, Resolves, KeepsLocals, TakesExports, TakesKeys, AreSpaced}
use Rattle.glue_words.specs.Linking.{IsBoundOnce, IsResolved, IsLocal, IsExported, IsDescribed, IsSpaced}

-- the words end with a gap
abbrev pub ends_in_gap : List Word → Bool
ends_in_gap [] = false
ends_in_gap (Gap text ∷ []) = true
ends_in_gap (word ∷ []) = false
ends_in_gap (word ∷ other ∷ words) = ends_in_gap (other ∷ words)

-- the words are spaced wherever they stand: they end with a gap, and leave no note open
pub record StandAlone (words : List Word) : Type 0 where
  pub spaced : AreSpaced false words None
  pub ends : IsTrue (ends_in_gap words)
  pub closed : is_open false words ≡ false

-- the names of a file: those of the host, exports of the module, described keys, and what its items declare
pub record Context : Type 0 where
  pub hosts : List (List ℕ)
  pub exports : List (List ℕ)
  pub keys : List (List ℕ)
  pub declared : List (List ℕ)

-- words that may stand anywhere in a file of such names, whatever stands before and behind them
pub record Belongs (c : Context) (words : List Word) : Type 0 where
  pub resolved : Resolves c.hosts c.declared words
  pub local : KeepsLocals words
  pub exported : TakesExports c.exports words None
  pub described : TakesKeys c.keys words
  pub alone : StandAlone words

-- each item has a fact
abbrev pub AllItems : (Item → Type 0) → List Item → Type 0
AllItems P [] = Unit {0}
AllItems P (item ∷ items) = P item × AllItems P items

-- the parts of linkage that words decide
pub record AreLinked (c : Context) (items : List Item) : Type 0 where
  pub distinct : EachItem (IsBoundOnce c.hosts) [] items
  pub resolved : EachItem (IsResolved c.hosts) [] items
  pub local : EachItem IsLocal [] items
  pub exported : EachItem (IsExported c.exports) [] items
  pub described : EachItem (IsDescribed c.keys) [] items
  pub spaced : EachItem IsSpaced [] items
