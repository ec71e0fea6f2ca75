-- The words around a function whose throws are caught: they are spaced from it, and use `handleError` alone, which is declared where the glue
-- file catches what imports throw.
use Rattle.glue_context.proofs.Common.{◌≡◌, ℕ, List, [], ◌∷◌, ◌++◌, Bool, true, false, true≢false, refl, sym, ap, ◌∙◌, subst, rules, codes, filter_map, filter_map-append, list_any, IsIn, AreAmong, AreApart, Item, ImportId, ImportKind, Context, IsFrame, bound_in, is_export_key, Settings, Lowered, own_imports}
use Rattle.std.specs.Prelude.{◌&&◌, cond}
use Rattle.glue_words.specs.declared.word.Word.{Word}
use Rattle.glue_words.specs.Ident.{is_ident}
use Rattle.glue_words.specs.Spacing.{joins}
use Rattle.glue_words.specs.Tables.{punct_text}
use Rattle.glue_words.proofs.Among.{apart_none}
use Rattle.glue_words.proofs.Idents.{ascii_ident}
use Rattle.glue_binding.proofs.Linked.{StandsBeside}
use Rattle.glue_shared.specs.Names.{has_number}
use Rattle.printed_adapters.specs.Caught.{catches, is_caught, is_caught_pair}
use Rattle.glue_context.specs.declared.handing.Throws.{Throws}
use Rattle.glue_context.specs.declared.handing.Throws.TheVariants as throws
use Rattle.glue_context.specs.Handing.{caller_back, definition_back, definition_front, fallback, gives_wide, names_around, throws_of}
use Rattle.glue_context.proofs.Entries.{any_there}
use Rattle.glue_context.proofs.Fits.{HasNames}

handler_ident : is_ident (codes "handleError") ≡ true
handler_ident = ascii_ident (codes "handleError") refl

-- they are spaced from the function
pub defines : (t : Throws) (name : List ℕ) → IsFrame (definition_front t name) (definition_back t)
unfolding joins punct_text
defines throws.Left name = record { right = (refl, refl); before = refl; behind = refl; after = refl; apart = refl; ends = refl }
defines (throws.Handed true) name = record { right = (rw handler_ident refl, refl); before = refl; behind = refl; after = refl; apart = refl; ends = refl }
defines (throws.Handed false) name = record { right = (rw handler_ident refl, refl); before = refl; behind = refl; after = refl; apart = refl; ends = refl }

-- the words behind it declare nothing, and are no `export`
pub back_binds : (t : Throws) → bound_in (definition_back t) ≡ []
back_binds throws.Left = refl
back_binds (throws.Handed true) = refl
back_binds (throws.Handed false) = refl

pub back_inner : (t : Throws) → list_any is_export_key (definition_back t) ≡ false
back_inner throws.Left = refl
back_inner (throws.Handed true) = refl
back_inner (throws.Handed false) = refl

-- neither do those before it
pub front_binds : (t : Throws) (name : List ℕ) (words : List Word) → bound_in (definition_front t name ++ words) ≡ bound_in words
front_binds throws.Left name words = refl
front_binds (throws.Handed wide) name words = refl

pub front_inner : (t : Throws) (name : List ℕ) (words : List Word) → list_any is_export_key (definition_front t name ++ words) ≡ list_any is_export_key words
front_inner throws.Left name words = refl
front_inner (throws.Handed wide) name words = refl

-- a file has the names that they use, where it has those that stand around the function, and they hide no name of the function's own
module _ (c : Context) (own : List (List ℕ)) (name : List ℕ) where
  abbrev AreBeside : Throws → Type 0
  AreBeside t =
      HasNames c (definition_front t name) × HasNames c (definition_back t) × StandsBeside own (definition_front t name) × StandsBeside own (definition_back t)

  nothing : HasNames c []
  nothing = (tt, tt, tt, tt, refl)

  pub beside : (t : Throws) → AreAmong (names_around t) c.declared → AreApart own (names_around t) → AreBeside t
  beside throws.Left h apart = (
    nothing,
    nothing,
    record { unused = refl; undeclared = refl; apart = apart_none own },
    record { unused = refl; undeclared = refl; apart = apart_none own },
  )
  beside (throws.Handed true) h apart = (
    (h, tt, tt, tt, refl),
    nothing,
    record { unused = refl; undeclared = refl; apart = apart },
    record { unused = refl; undeclared = refl; apart = apart_none own },
  )
  beside (throws.Handed false) h apart = (
    (h, tt, tt, tt, refl),
    nothing,
    record { unused = refl; undeclared = refl; apart = apart },
    record { unused = refl; undeclared = refl; apart = apart_none own },
  )

-- the names around the function of an own import's adapter are declared, where `handleError` is if the glue file catches what an import throws
module _ (s : Settings) (l : Lowered) (declared : List (List ℕ)) (handled : catches s l ≡ true → IsIn (codes "handleError") declared) where
  pub around_declared : (pair : ImportId × ℕ) → IsIn pair l.wit.implements → has_number pair.0.0 (own_imports s l.«module» l.wit l.aux) ≡ true
      → (kind : ImportKind) → AreAmong (names_around (throws_of l pair.1 kind)) declared
  around_declared pair at mine kind = by (is_caught l pair.1) refl
    where
      own : List ℕ
      own = own_imports s l.«module» l.wit l.aux

      by : (b : Bool) → is_caught l pair.1 ≡ b → AreAmong (names_around (cond b (throws.Handed (gives_wide l.«module» kind)) throws.Left)) declared
      by true caught =
          (handled (any_there (is_caught_pair own l) l.wit.implements pair at (ap (λ (b : Bool). b && is_caught l pair.1) mine ∙ caught)), tt)
      by false left = tt
