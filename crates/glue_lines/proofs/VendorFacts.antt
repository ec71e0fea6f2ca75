-- What vendor constants declare, use and take of the host, and where they belong, for any number of prefixes.
use Rattle.std.proofs.Common.{◌≡◌, ℕ, true, List, [], ◌∷◌, ◌++◌, refl, ap, ◌∙◌, map}
use Rattle.std.proofs.Common.{append_assoc}
use Rattle.std.proofs.lemmas.Bool.{and_parts}
use Rattle.std.specs.Prelude.{codes}
use Rattle.std.specs.List.{list_all, flat_map}
use Rattle.values.specs.Lists.{IsIn}
use Rattle.glue_words.specs.declared.word.Word.{Word}
use Rattle.glue_words.specs.declared.word.Word.TheVariants as w
use Rattle.glue_words.specs.declared.key.TheConstants as key
use Rattle.glue_words.specs.declared.punct.TheConstants as punct
use Rattle.glue_words.specs.Words.{space, line_feed}
use Rattle.glue_words.specs.Facts.{Last, facts, joined}
use Rattle.glue_words.specs.Ident.{is_ident}
use Rattle.glue_words.specs.Linking.{AreAmong}
use Rattle.glue_words.specs.Spacing.{joins}
use Rattle.glue_words.specs.Tables.{punct_text}
use Rattle.glue_words.proofs.Belonging.{Context, Belongs}
use Rattle.glue_words.proofs.Fitting.{Fits, belongs_by_facts}
use Rattle.glue_words.proofs.Idents.{ascii_ident}
use Rattle.glue_words.proofs.Joined.{joined_are}
use Rattle.glue_lines.specs.Vendor.{vendor_names, tested_words, closing_word, constant_words, vendor_constant}
use Rattle.glue_lines.proofs.Shown.{shown, HoldsOnly, shown_holds, shown_fits}

-- the names of the host that a constant takes, each where it is tested and where it is taken; and `undefined`
abbrev pub tried_names : List (List ℕ) → List (List ℕ)
tried_names names = flat_map (λ name. name ∷ name ∷ []) names ++ codes "undefined" ∷ []

-- ---- the words

-- the end of the statement
abbrev statement_end : List Word
statement_end = w.Punct punct.SEMICOLON ∷ line_feed ∷ []

abbrev closed_by : List (List ℕ) → Word
closed_by [] = w.Punct punct.SEMICOLON
closed_by (name ∷ names) = w.Punct punct.CLOSE_PAREN

closed_are : (names : List (List ℕ))
    → facts (map closing_word names ++ statement_end) ≡ shown [] [] [] (Last [] 0) (closed_by names) line_feed
unfolding joins punct_text
closed_are [] = refl
closed_are (name ∷ []) = refl
closed_are (name ∷ next ∷ names) =
    joined_are (closing_word name ∷ []) (map closing_word (next ∷ names) ++ statement_end)
    (shown [] [] [] (Last [] 0) (w.Punct punct.CLOSE_PAREN) (w.Punct punct.CLOSE_PAREN)) _ refl (closed_are (next ∷ names))

-- `undefined` before the closing parentheses
last_are : (names : List (List ℕ))
    → facts (w.Host (codes "undefined") true ∷ map closing_word names ++ statement_end)
    ≡ shown [] (codes "undefined" ∷ []) [] (Last [] 0) (w.Host (codes "undefined") true) line_feed
unfolding joins punct_text
last_are [] = refl
last_are (name ∷ names) =
    joined_are (w.Host (codes "undefined") true ∷ []) (map closing_word (name ∷ names) ++ statement_end)
    (shown [] (codes "undefined" ∷ []) [] (Last [] 0) (w.Host (codes "undefined") true)
    (w.Host (codes "undefined") true)) _ refl (closed_are (name ∷ names))

tested_are : (name : List ℕ)
    → facts (tested_words name) ≡ shown [] (name ∷ name ∷ []) [] (Last [] 0) (w.Punct punct.OPEN_PAREN) space
unfolding joins punct_text
tested_are name = refl

abbrev begun_by : List (List ℕ) → Word
begun_by [] = w.Host (codes "undefined") true
begun_by (name ∷ names) = w.Punct punct.OPEN_PAREN

chain_joined : (name : List ℕ) (names : List (List ℕ))
    → joined (shown [] (name ∷ name ∷ []) [] (Last [] 0) (w.Punct punct.OPEN_PAREN) space)
    (shown [] (tried_names names) [] (Last [] 0) (begun_by names) line_feed)
    ≡ shown [] (tried_names (name ∷ names)) [] (Last [] 0) (w.Punct punct.OPEN_PAREN) line_feed
chain_joined name [] = refl
chain_joined name (next ∷ names) = refl

-- the tests of names, before a rest that takes `undefined`
chain_are : (rest : List Word) (names : List (List ℕ))
    → facts rest ≡ shown [] (codes "undefined" ∷ []) [] (Last [] 0) (w.Host (codes "undefined") true) line_feed
    → facts (flat_map tested_words names ++ rest) ≡ shown [] (tried_names names) [] (Last [] 0) (begun_by names) line_feed
chain_are rest [] h = h
chain_are rest (name ∷ names) h =
    ap facts (append_assoc (tested_words name) (flat_map tested_words names) rest)
    ∙ joined_are (tested_words name) (flat_map tested_words names ++ rest) _ _ (tested_are name) (chain_are rest names h)
    ∙ chain_joined name names

-- `const bound = `
abbrev start : List ℕ → List Word
start bound = w.Key key.CONST ∷ space ∷ w.Bind bound ∷ space ∷ w.Punct punct.ASSIGN ∷ space ∷ []

start_are : (bound : List ℕ)
    → facts (start bound) ≡ shown (bound ∷ []) [] [] (Last [] 0) (w.Key key.CONST) space
unfolding joins punct_text
start_are bound = refl

constant_joined : (bound : List ℕ) (names : List (List ℕ))
    → joined (shown (bound ∷ []) [] [] (Last [] 0) (w.Key key.CONST) space)
    (shown [] (tried_names names) [] (Last [] 0) (begun_by names) line_feed)
    ≡ shown (bound ∷ []) (tried_names names) [] (Last [] 0) (w.Key key.CONST) line_feed
constant_joined bound [] = refl
constant_joined bound (name ∷ names) = refl

constant_are : (bound : List ℕ) (names : List (List ℕ))
    → facts (constant_words bound names)
    ≡ shown (bound ∷ []) (tried_names names) [] (Last [] 0) (w.Key key.CONST) line_feed
constant_are bound names =
    let last = w.Host (codes "undefined") true ∷ map closing_word names in
    ap (λ (words : List Word). facts (start bound ++ words))
    (append_assoc (flat_map tested_words names) last statement_end)
    ∙ joined_are (start bound) (flat_map tested_words names ++ (last ++ statement_end)) _ _ (start_are bound)
    (chain_are (last ++ statement_end) names (last_are names))
    ∙ constant_joined bound names

-- ---- the constant

tried_idents : (names : List (List ℕ)) → list_all is_ident names ≡ true
    → list_all is_ident (tried_names names ++ []) ≡ true
tried_idents [] h = rw (ascii_ident (codes "undefined") refl) refl
tried_idents (name ∷ names) h =
    let parts = and_parts (is_ident name) (list_all is_ident names) h in
    rw (parts.0, tried_idents names parts.1) refl

-- the names that are taken are among those that hold the names and `undefined`
pub tried_among : (names hosts : List (List ℕ)) → AreAmong names hosts → IsIn (codes "undefined") hosts
    → AreAmong (tried_names names) hosts
tried_among [] hosts h u = (u, tt)
tried_among (name ∷ names) hosts h u = (h.0, (h.0, tried_among names hosts h.1 u))

module _ (bound name : List ℕ) (prefixes : List (List ℕ)) where
  abbrev names : List (List ℕ)
  names = vendor_names name prefixes

  abbrev constant : List Word
  constant = (vendor_constant bound name prefixes).words

  -- the constant declares its name, and takes of the host the name, the prefixed ones, and `undefined`
  pub constant_holds : HoldsOnly constant (bound ∷ []) (tried_names names)
  constant_holds =
      shown_holds constant (bound ∷ []) (tried_names names) [] (Last [] 0) (w.Key key.CONST) (constant_are bound names)

  -- it fits and belongs where the host gives these names, if all are identifiers
  pub constant_fits : (c : Context) → list_all is_ident (bound ∷ names) ≡ true → AreAmong names c.hosts
      → IsIn (codes "undefined") c.hosts → Fits c (facts constant)
  constant_fits c idents known there =
      let parts = and_parts (is_ident bound) (list_all is_ident names) idents in
      shown_fits constant (bound ∷ []) (tried_names names) [] (Last [] 0) (w.Key key.CONST) (constant_are bound names) c
      refl (rw (parts.0, tried_idents names parts.1) refl) (tried_among names c.hosts known there)

  pub constant_belongs : (c : Context) → list_all is_ident (bound ∷ names) ≡ true → AreAmong names c.hosts
      → IsIn (codes "undefined") c.hosts → Belongs c constant
  constant_belongs c idents known there = belongs_by_facts c constant (constant_fits c idents known there)
