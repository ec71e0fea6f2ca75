-- What constants that are lists of texts declare, that they hold no other name, and where they belong, for any number of
-- texts, whatever these are.
use Rattle.std.proofs.Common.{◌≡◌, ℕ, true, List, [], ◌∷◌, ◌++◌, inl, inr, refl, ap, ◌∙◌, map}
use Rattle.std.proofs.Common.{append_assoc}
use Rattle.std.proofs.lemmas.Bool.{and_parts}
use Rattle.std.specs.List.{list_all, flat_map}
use Rattle.values.specs.Lists.{IsIn}
use Rattle.glue_words.specs.declared.item.Item.{Item}
use Rattle.glue_words.specs.declared.word.Word.{Word}
use Rattle.glue_words.specs.declared.word.Word.TheVariants as w
use Rattle.glue_words.specs.declared.key.TheConstants as key
use Rattle.glue_words.specs.declared.punct.TheConstants as punct
use Rattle.glue_words.specs.Words.{space, line_feed}
use Rattle.glue_words.specs.Facts.{Last, facts, joined}
use Rattle.glue_words.specs.Ident.{is_ident}
use Rattle.glue_words.specs.Names.{bound_name, bound_names}
use Rattle.glue_words.specs.Spacing.{joins}
use Rattle.glue_words.specs.Tables.{punct_text}
use Rattle.glue_words.proofs.Belonging.{Context, Belongs, AllItems}
use Rattle.glue_words.proofs.Fitting.{Fits, belongs_by_facts}
use Rattle.glue_words.proofs.Joined.{joined_are}
use Rattle.glue_words.proofs.Linked.{names-cons}
use Rattle.glue_lines.specs.Texts.{next_text, texts_constant_words, texts_constant}
use Rattle.glue_lines.proofs.Shown.{shown, HoldsOnly, shown_holds, shown_fits}

-- ---- the words

-- the end of the list, and of the statement
abbrev list_end : List Word
list_end = w.Punct punct.CLOSE_BRACKET ∷ w.Punct punct.SEMICOLON ∷ line_feed ∷ []

next_are : (text : List ℕ) → facts (next_text text) ≡ shown [] [] [] (Last [] 0) (w.Punct punct.COMMA) (w.Text text)
unfolding joins punct_text
next_are text = refl

-- the first word behind a text
abbrev behind : List (List ℕ) → Word
behind [] = w.Punct punct.CLOSE_BRACKET
behind (text ∷ texts) = w.Punct punct.COMMA

further_joined : (text : List ℕ) (texts : List (List ℕ))
    → joined (shown [] [] [] (Last [] 0) (w.Punct punct.COMMA) (w.Text text))
    (shown [] [] [] (Last [] 0) (behind texts) line_feed)
    ≡ shown [] [] [] (Last [] 0) (w.Punct punct.COMMA) line_feed
further_joined text [] = refl
further_joined text (next ∷ texts) = refl

-- further texts, up to the end of the statement
further_are : (texts : List (List ℕ))
    → facts (flat_map next_text texts ++ list_end) ≡ shown [] [] [] (Last [] 0) (behind texts) line_feed
unfolding joins punct_text
further_are [] = refl
further_are (text ∷ texts) =
    ap facts (append_assoc (next_text text) (flat_map next_text texts) list_end)
    ∙ joined_are (next_text text) (flat_map next_text texts ++ list_end) _ _ (next_are text) (further_are texts)
    ∙ further_joined text texts

-- `const bound = ["text"`
abbrev start : (bound text : List ℕ) → List Word
start bound text =
    w.Key key.CONST ∷ space ∷ w.Bind bound ∷ space ∷ w.Punct punct.ASSIGN ∷ space ∷ w.Punct punct.OPEN_BRACKET
    ∷ w.Text text ∷ []

start_are : (bound text : List ℕ)
    → facts (start bound text) ≡ shown (bound ∷ []) [] [] (Last [] 0) (w.Key key.CONST) (w.Text text)
unfolding joins punct_text
start_are bound text = refl

constant_joined : (bound text : List ℕ) (texts : List (List ℕ))
    → joined (shown (bound ∷ []) [] [] (Last [] 0) (w.Key key.CONST) (w.Text text))
    (shown [] [] [] (Last [] 0) (behind texts) line_feed)
    ≡ shown (bound ∷ []) [] [] (Last [] 0) (w.Key key.CONST) line_feed
constant_joined bound text [] = refl
constant_joined bound text (next ∷ texts) = refl

constant_are : (bound : List ℕ) (texts : List (List ℕ))
    → facts (texts_constant_words bound texts) ≡ shown (bound ∷ []) [] [] (Last [] 0) (w.Key key.CONST) line_feed
unfolding joins punct_text
constant_are bound [] = refl
constant_are bound (text ∷ texts) =
    joined_are (start bound text) (flat_map next_text texts ++ list_end) _ _ (start_are bound text) (further_are texts)
    ∙ constant_joined bound text texts

-- ---- the constant

module _ (bound : List ℕ) (texts : List (List ℕ)) where
  abbrev constant : List Word
  constant = (texts_constant bound texts).words

  -- the constant declares its name, and takes nothing of the host
  pub texts_hold : HoldsOnly constant (bound ∷ []) []
  texts_hold = shown_holds constant (bound ∷ []) [] [] (Last [] 0) (w.Key key.CONST) (constant_are bound texts)

  -- it fits and belongs into any file, if its name is an identifier
  pub texts_fit : (c : Context) → is_ident bound ≡ true → Fits c (facts constant)
  texts_fit c ident =
      shown_fits constant (bound ∷ []) [] [] (Last [] 0) (w.Key key.CONST) (constant_are bound texts) c refl
      (rw ident refl) tt

  pub texts_belong : (c : Context) → is_ident bound ≡ true → Belongs c constant
  texts_belong c ident = belongs_by_facts c constant (texts_fit c ident)

-- ---- a constant for each of some things, by the name and the texts that each has

module _ {A : Type 0} (name : A → List ℕ) (texts : A → List (List ℕ)) where
  abbrev item_of : A → Item
  item_of x = texts_constant (name x) (texts x)

  -- each has a fact that the constant of each thing has
  pub texts_each : (P : Item → Type 0) (xs : List A) → ((x : A) → IsIn x xs → P (item_of x)) → AllItems P (map item_of xs)
  texts_each P [] give = tt
  texts_each P (x ∷ xs) give = (give x (inl refl), texts_each P xs (λ y at. give y (inr at)))

  -- they declare the names
  pub texts_declare : (xs : List A) → bound_names (map item_of xs) ≡ map name xs
  texts_declare [] = refl
  texts_declare (x ∷ xs) =
      names-cons bound_name (item_of x) (map item_of xs)
      ∙ ap (λ (names : List (List ℕ)). names ++ bound_names (map item_of xs)) (texts_hold (name x) (texts x)).binds
      ∙ ap (λ (names : List (List ℕ)). name x ∷ names) (texts_declare xs)

  -- they belong into any file, if the names are identifiers
  pub texts_all_belong : (c : Context) (xs : List A) → list_all is_ident (map name xs) ≡ true
      → AllItems (λ item. Belongs c item.words) (map item_of xs)
  texts_all_belong c [] idents = tt
  texts_all_belong c (x ∷ xs) idents =
      let parts = and_parts (is_ident (name x)) (list_all is_ident (map name xs)) idents in
      (texts_belong (name x) (texts x) c parts.0, texts_all_belong c xs parts.1)
