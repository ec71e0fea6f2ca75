-- Words whose names are known: a test that lets them fit into a file where the names from outside are there.
use Rattle.std.proofs.Common.{◌≡◌, ℕ, List, ◌∷◌, [], ◌++◌, inl, inr, refl, ap, sym, ◌∙◌, Bool, true, false, true≢false}
use Rattle.std.proofs.lemmas.Bool.{and_parts}
use Rattle.std.proofs.lemmas.Slice.Eq.{bytes_eq-Decides}
use Rattle.std.specs.Prelude.{◌&&◌, ◌||◌, not}
use Rattle.std.specs.List.{list_all, list_any}
use Rattle.std.specs.Str.{bytes_eq}
use Rattle.values.specs.Lists.{IsIn, AreApart}
use Rattle.glue_words.specs.Ident.{is_ident}
use Rattle.glue_words.specs.Limits.{is_prop, is_computed}
use Rattle.glue_words.specs.Facts.{Facts}
use Rattle.glue_words.specs.Linking.{AreAmong}
use Rattle.glue_words.proofs.Among.{among_trans, apart_by, apart_swap}
use Rattle.glue_words.proofs.Belonging.{Context}
use Rattle.glue_words.proofs.Fitting.{Fits, stands_alone, the_module, all_among}
use Rattle.glue_words.proofs.Idents.{is_ascii_ident, ascii_ident, is_ascii_prop, ascii_prop}

-- ---- names that are among others or apart from them, by tests

or_true : (b : Bool) → (b || true) ≡ true
or_true true = refl
or_true false = refl

abbrev are_known : (others names : List (List ℕ)) → Bool
are_known others names = list_all (λ name. list_any (bytes_eq name) others) names

abbrev are_unknown : (others names : List (List ℕ)) → Bool
are_unknown others names = list_all (λ name. not (list_any (bytes_eq name) others)) names

known_in : (name : List ℕ) (others : List (List ℕ)) → list_any (bytes_eq name) others ≡ true → IsIn name others
known_in name [] h = absurd (true≢false (sym h))
known_in name (other ∷ others) h = one (bytes_eq name other) refl h (known_in name others)
  where
    one : (b : Bool) → bytes_eq name other ≡ b → (b || list_any (bytes_eq name) others) ≡ true
        → (list_any (bytes_eq name) others ≡ true → IsIn name others) → IsIn name (other ∷ others)
    one true e k rest = inl ((bytes_eq-Decides name other).0 e)
    one false e k rest = inr (rest k)

pub known_among : (others names : List (List ℕ)) → are_known others names ≡ true → AreAmong names others
known_among others [] h = tt
known_among others (name ∷ names) h =
    let p = and_parts (list_any (bytes_eq name) others) (are_known others names) h in
    (known_in name others p.0, known_among others names p.1)

itself_known : (name : List ℕ) (others : List (List ℕ)) → IsIn name others → list_any (bytes_eq name) others ≡ true
itself_known name [] at = absurd at
itself_known name (other ∷ others) (inl same) =
    ap (λ (b : Bool). b || list_any (bytes_eq name) others) ((bytes_eq-Decides name other).1 same)
itself_known name (other ∷ others) (inr at) =
    ap (λ (b : Bool). bytes_eq name other || b) (itself_known name others at) ∙ or_true (bytes_eq name other)

-- names that are unknown to others are apart from them
pub unknown_apart : (others names : List (List ℕ)) → are_unknown others names ≡ true → AreApart others names
unknown_apart others names h = apart_by others names (λ name at there.
    let fails = (and_parts (not (list_any (bytes_eq name) others)) true
    (all_among (λ n. not (list_any (bytes_eq n) others)) (name ∷ []) names (there, tt) h)).0 in
    true≢false (sym fails ∙ ap not (itself_known name others at)))

-- names are among others, and these among them
pub record AreSame (names others : List (List ℕ)) : Type 0 where
  pub there : AreAmong names others
  pub back : AreAmong others names

abbrev are_same : (others names : List (List ℕ)) → Bool
are_same others names = are_known others names && are_known names others

same_by_test : (others names : List (List ℕ)) → are_same others names ≡ true → AreSame names others
same_by_test others names h =
    let p = and_parts (are_known others names) (are_known names others) h in
    record { there = known_among others names p.0; back = known_among names others p.1 }

-- ---- identifiers and properties of ASCII characters

-- names that pass a test pass another that it implies
all_by : (test other : List ℕ → Bool) → ((name : List ℕ) → test name ≡ true → other name ≡ true)
    → (names : List (List ℕ)) → list_all test names ≡ true → list_all other names ≡ true
all_by test other give [] h = refl
all_by test other give (name ∷ names) h =
    let p = and_parts (test name) (list_all test names) h in
    rw (give name p.0, all_by test other give names p.1) refl

-- ---- the test

module _ (f : Facts) (used hosted : List (List ℕ)) where
  -- the words stand alone, and their names are ASCII
  abbrev are_sound : Bool
  are_sound =
      stands_alone f && (list_all is_ascii_ident (f.binds ++ (f.uses ++ (f.hosts ++ f.local_binds)))
      && list_all is_ascii_prop f.props)

  -- the names from outside are these
  abbrev are_from_outside : Bool
  are_from_outside = are_same used f.uses && are_same hosted f.hosts

  -- locals are declared, and hide no name from outside
  abbrev are_own : Bool
  are_own = are_known f.local_binds f.locals && are_unknown f.local_binds (f.uses ++ f.hosts)

  -- no export is taken, and no computed key
  abbrev take_nothing : Bool
  take_nothing =
      (are_known [] f.takes && are_known [] f.keys) && (are_unknown the_module f.opened && are_known [] f.gated)

  -- words of these facts fit where these names are there
  abbrev pub fit_with : Bool
  fit_with = (are_sound && are_from_outside) && (are_own && take_nothing)

  module _ (test : fit_with ≡ true) where
    abbrev halves : ((are_sound && are_from_outside) ≡ true) × ((are_own && take_nothing) ≡ true)
    halves = and_parts (are_sound && are_from_outside) (are_own && take_nothing) test

    abbrev outside : (are_same used f.uses ≡ true) × (are_same hosted f.hosts ≡ true)
    outside = and_parts (are_same used f.uses) (are_same hosted f.hosts) (and_parts are_sound are_from_outside halves.0).1

    pub uses_are : AreSame f.uses used
    uses_are = same_by_test used f.uses outside.0

    pub hosts_are : AreSame f.hosts hosted
    hosts_are = same_by_test hosted f.hosts outside.1

    pub fits_by_test : (c : Context) → AreAmong used c.declared → AreAmong hosted c.hosts → Fits c f
    fits_by_test c u h =
        let first = and_parts are_sound are_from_outside halves.0 in
        let second = and_parts are_own take_nothing halves.1 in
        let sound = and_parts (stands_alone f)
        (list_all is_ascii_ident (f.binds ++ (f.uses ++ (f.hosts ++ f.local_binds)))
        && list_all is_ascii_prop f.props) first.0 in
        let names = and_parts (list_all is_ascii_ident (f.binds ++ (f.uses ++ (f.hosts ++ f.local_binds))))
        (list_all is_ascii_prop f.props) sound.1 in
        let own = and_parts (are_known f.local_binds f.locals)
        (are_unknown f.local_binds (f.uses ++ f.hosts)) second.0 in
        let nothing = and_parts (are_known [] f.takes && are_known [] f.keys)
        (are_unknown the_module f.opened && are_known [] f.gated) second.1 in
        let taken = and_parts (are_known [] f.takes) (are_known [] f.keys) nothing.0 in
        let gates = and_parts (are_unknown the_module f.opened) (are_known [] f.gated) nothing.1 in record {
          alone = sound.0;
          idents =
              all_by is_ascii_ident is_ident ascii_ident (f.binds ++ (f.uses ++ (f.hosts ++ f.local_binds))) names.0;
          props = all_by is_ascii_prop is_prop ascii_prop f.props names.1;
          resolved = among_trans f.uses used c.declared uses_are.there u;
          known = among_trans f.hosts hosted c.hosts hosts_are.there h;
          local = known_among f.local_binds f.locals own.0;
          apart = unknown_apart f.local_binds (f.uses ++ f.hosts) own.1;
          taken = among_trans f.takes [] c.exports (known_among [] f.takes taken.0) tt;
          described = among_trans f.keys [] c.keys (known_among [] f.keys taken.1) tt;
          formed = all_among is_computed f.keys [] (known_among [] f.keys taken.1) refl;
          opened = apart_swap the_module f.opened (unknown_apart the_module f.opened gates.0);
          gated = among_trans f.gated [] the_module (known_among [] f.gated gates.1) tt;
        }
