-- Texts whose names are known: facts without repetition, and a test that lets them fit.
use Rattle.std.proofs.Common.{◌≡◌, ℕ, List, ◌∷◌, [], ◌++◌, inl, inr, refl, ap, sym, ◌∙◌, subst, Bool, true, false}
use Rattle.std.proofs.Common.{true≢false}
use Rattle.std.proofs.lemmas.Bool.{and_parts}
use Rattle.std.proofs.lemmas.Slice.Eq.{bytes_eq-Decides}
use Rattle.std.specs.Prelude.{◌&&◌, ◌||◌, not}
use Rattle.std.specs.List.{list_all}
use Rattle.std.specs.Str.{bytes_eq}
use Rattle.values.specs.Lists.{IsIn, IsAway, AreApart}
use Rattle.glue_words.specs.Ident.{is_ident}
use Rattle.glue_words.specs.Limits.{is_prop, is_computed}
use Rattle.glue_words.specs.Linking.{AreAmong}
use Rattle.glue_words.proofs.Among.{among_itself, among_trans, among_both, among_left, among_right, apart_among}
use Rattle.glue_words.proofs.Among.{apart_swap}
use Rattle.glue_words.proofs.Idents.{is_ascii_ident, ascii_ident, is_ascii_prop, ascii_prop}
use Rattle.glue_words.specs.Facts.{Facts}
use Rattle.glue_words.proofs.Belonging.{Context}
use Rattle.glue_words.proofs.Fitting.{Fits, stands_alone, the_module}
use Rattle.glue_words.proofs.Fitting.{all_among}

-- ---- tests of membership

-- a name is one of these
abbrev pub is_in : List ℕ → List (List ℕ) → Bool
is_in name [] = false
is_in name (other ∷ names) = bytes_eq other name || is_in name names

abbrev pub all_in : List (List ℕ) → List (List ℕ) → Bool
all_in names others = list_all (λ name. is_in name others) names

abbrev pub none_in : List (List ℕ) → List (List ℕ) → Bool
none_in names others = list_all (λ name. not (is_in name others)) names

in_by : (name : List ℕ) (names : List (List ℕ)) → is_in name names ≡ true → IsIn name names
in_by name [] h = absurd (true≢false (sym h))
in_by name (other ∷ names) h = one (bytes_eq other name) refl h (in_by name names)
  where
    one : (b : Bool) → bytes_eq other name ≡ b → (b || is_in name names) ≡ true
        → (is_in name names ≡ true → IsIn name names) → IsIn name (other ∷ names)
    one true e k rest = inl (sym ((bytes_eq-Decides other name).0 e))
    one false e k rest = inr (rest k)

away_by : (name : List ℕ) (names : List (List ℕ)) → not (is_in name names) ≡ true → IsAway name names
away_by name [] h = λ at. at
away_by name (other ∷ names) h = one (bytes_eq other name) refl h (away_by name names)
  where
    one : (b : Bool) → bytes_eq other name ≡ b → not (b || is_in name names) ≡ true
        → (not (is_in name names) ≡ true → IsAway name names) → IsAway name (other ∷ names)
    one true e k rest at = absurd (true≢false (sym k))
    one false e k rest (inl same) = absurd (true≢false (sym ((bytes_eq-Decides other name).1 (sym same)) ∙ e))
    one false e k rest (inr at) = rest k at

pub among_by_test : (names others : List (List ℕ)) → all_in names others ≡ true → AreAmong names others
among_by_test [] others h = tt
among_by_test (name ∷ names) others h =
    let p = and_parts (is_in name others) (all_in names others) h in (
      in_by name others p.0,
      among_by_test names others p.1,
    )

pub apart_by_test : (names others : List (List ℕ)) → none_in names others ≡ true → AreApart names others
apart_by_test [] others h = tt
apart_by_test (name ∷ names) others h =
    let p = and_parts (not (is_in name others)) (none_in names others) h in (
      away_by name others p.0,
      apart_by_test names others p.1,
    )

-- ---- names without repetition

-- each name once
abbrev pub once : List (List ℕ) → List (List ℕ)
once [] = []
once (name ∷ names) = let rest = once names in elim (is_in name rest) [ true ↦ rest | false ↦ name ∷ rest ]

pub among_once : (names : List (List ℕ)) → AreAmong names (once names)
among_once [] = tt
among_once (name ∷ names) = one (is_in name (once names)) refl (among_once names)
  where
    one : (b : Bool) → is_in name (once names) ≡ b → AreAmong names (once names)
        → AreAmong (name ∷ names) (elim b [ true ↦ once names | false ↦ name ∷ once names ])
    one true e rest = (in_by name (once names) e, rest)
    one false e rest = (inl refl, among_right names (name ∷ []) (once names) rest)

pub once_among : (names : List (List ℕ)) → AreAmong (once names) names
once_among [] = tt
once_among (name ∷ names) =
    one (is_in name (once names)) (among_right (once names) (name ∷ []) names (once_among names))
  where
    one : (b : Bool) → AreAmong (once names) (name ∷ names)
        → AreAmong (elim b [ true ↦ once names | false ↦ name ∷ once names ]) (name ∷ names)
    one true rest = rest
    one false rest = (inl refl, rest)

among_beside : (xs ys zs ws : List (List ℕ)) → AreAmong xs ys → AreAmong zs ws → AreAmong (xs ++ zs) (ys ++ ws)
among_beside xs ys zs ws h k = among_both xs zs (ys ++ ws) (among_left xs ys ws h) (among_right zs ys ws k)

-- the same facts, where each name is told once, but for those that are declared
abbrev pub short : Facts → Facts
short f = record {
  binds = f.binds;
  uses = once f.uses;
  uses_now = once f.uses_now;
  hosts = once f.hosts;
  hosts_now = once f.hosts_now;
  local_binds = once f.local_binds;
  locals = once f.locals;
  takes = once f.takes;
  keys = once f.keys;
  outers = f.outers;
  props = once f.props;
  opened = once f.opened;
  gated = once f.gated;
  order = f.order;
  hoisted = f.hoisted;
  lead = f.lead;
  trail = f.trail;
  levels = f.levels;
  arrowed = f.arrowed;
  proper = f.proper;
  spaced = f.spaced;
  exported = f.exported;
  turn = f.turn;
  outside = f.outside;
  inside = f.inside;
  ends = f.ends;
}

-- ---- texts of names that are known

-- what fits in every file whose names it asks for: ASCII names, no computed key
abbrev pub is_shipped : Facts → Bool
is_shipped f =
    ((stands_alone f && list_all is_ascii_ident (f.binds ++ (f.uses ++ (f.hosts ++ f.local_binds))))
    && (list_all is_ascii_prop f.props && none_in f.keys f.keys))
    && ((all_in f.locals f.local_binds && none_in f.local_binds (f.uses ++ f.hosts))
    && (none_in f.opened the_module && all_in f.gated the_module))

ascii_idents : (names : List (List ℕ)) → list_all is_ascii_ident names ≡ true → list_all is_ident names ≡ true
ascii_idents [] h = refl
ascii_idents (name ∷ names) h =
    let p = and_parts (is_ascii_ident name) (list_all is_ascii_ident names) h in
    ap (λ (b : Bool). b && list_all is_ident names) (ascii_ident name p.0) ∙ ascii_idents names p.1

ascii_props : (names : List (List ℕ)) → list_all is_ascii_prop names ≡ true → list_all is_prop names ≡ true
ascii_props [] h = refl
ascii_props (name ∷ names) h =
    let p = and_parts (is_ascii_prop name) (list_all is_ascii_prop names) h in
    ap (λ (b : Bool). b && list_all is_prop names) (ascii_prop name p.0) ∙ ascii_props names p.1

no_names : (names : List (List ℕ)) → none_in names names ≡ true → names ≡ []
no_names [] h = refl
no_names (name ∷ names) h = absurd ((apart_by_test (name ∷ names) (name ∷ names) h).0 (inl refl))

-- the parts of the test
pub record IsShipped (f : Facts) : Type 0 where
  pub alone : stands_alone f ≡ true
  pub idents : list_all is_ident (f.binds ++ (f.uses ++ (f.hosts ++ f.local_binds))) ≡ true
  pub props : list_all is_prop f.props ≡ true
  pub no_keys : f.keys ≡ []
  pub local : AreAmong f.locals f.local_binds
  pub apart : AreApart f.local_binds (f.uses ++ f.hosts)
  pub opened : AreApart f.opened the_module
  pub gated : AreAmong f.gated the_module

pub shipped_by_test : (f : Facts) → is_shipped f ≡ true → IsShipped f
shipped_by_test f h =
    let one = stands_alone f in
    let two = list_all is_ascii_ident (f.binds ++ (f.uses ++ (f.hosts ++ f.local_binds))) in
    let three = list_all is_ascii_prop f.props in
    let four = none_in f.keys f.keys in
    let five = all_in f.locals f.local_binds in
    let six = none_in f.local_binds (f.uses ++ f.hosts) in
    let seven = none_in f.opened the_module in
    let eight = all_in f.gated the_module in
    let halves = and_parts ((one && two) && (three && four)) ((five && six) && (seven && eight)) h in
    let front = and_parts (one && two) (three && four) halves.0 in
    let back = and_parts (five && six) (seven && eight) halves.1 in
    let a = and_parts one two front.0 in
    let b = and_parts three four front.1 in
    let c = and_parts five six back.0 in
    let d = and_parts seven eight back.1 in record {
      alone = a.0;
      idents = ascii_idents (f.binds ++ (f.uses ++ (f.hosts ++ f.local_binds))) a.1;
      props = ascii_props f.props b.0;
      no_keys = no_names f.keys b.1;
      local = among_by_test f.locals f.local_binds c.0;
      apart = apart_by_test f.local_binds (f.uses ++ f.hosts) c.1;
      opened = apart_by_test f.opened the_module d.0;
      gated = among_by_test f.gated the_module d.1;
    }

module _ (c : Context) (f : Facts) where
  pub fits_shipped : IsShipped f → AreAmong f.uses c.declared → AreAmong f.hosts c.hosts → AreAmong f.takes c.exports
      → Fits c f
  fits_shipped s u h t = record {
    alone = s.alone;
    idents = s.idents;
    props = s.props;
    resolved = u;
    known = h;
    local = s.local;
    apart = s.apart;
    taken = t;
    described = subst (λ (xs : List (List ℕ)). AreAmong xs c.keys) (sym s.no_keys) tt;
    formed = ap (list_all is_computed) s.no_keys;
    opened = s.opened;
    gated = s.gated;
  }

-- ---- facts that hold no name which others don't

pub record Covers (g f : Facts) : Type 0 where
  pub alone : stands_alone g ≡ stands_alone f
  pub binds : AreAmong f.binds g.binds
  pub uses : AreAmong f.uses g.uses
  pub hosts : AreAmong f.hosts g.hosts
  pub local_binds : AreAmong f.local_binds g.local_binds
  pub locals_back : AreAmong g.local_binds f.local_binds
  pub locals : AreAmong f.locals g.locals
  pub takes : AreAmong f.takes g.takes
  pub keys : AreAmong f.keys g.keys
  pub props : AreAmong f.props g.props
  pub opened : AreAmong f.opened g.opened
  pub gated : AreAmong f.gated g.gated

pub covers_short : (f : Facts) → Covers (short f) f
covers_short f = record {
  alone = refl;
  binds = among_itself f.binds;
  uses = among_once f.uses;
  hosts = among_once f.hosts;
  local_binds = among_once f.local_binds;
  locals_back = once_among f.local_binds;
  locals = among_once f.locals;
  takes = among_once f.takes;
  keys = among_once f.keys;
  props = among_once f.props;
  opened = among_once f.opened;
  gated = among_once f.gated;
}

pub fits_covered : (c : Context) (g f : Facts) → Covers g f → Fits c g → Fits c f
fits_covered c g f v fit = record {
  alone = sym v.alone ∙ fit.alone;
  idents =
      all_among is_ident (f.binds ++ (f.uses ++ (f.hosts ++ f.local_binds))) (g.binds
      ++ (g.uses ++ (g.hosts ++ g.local_binds)))
      (among_beside f.binds g.binds _ _ v.binds
      (among_beside f.uses g.uses _ _ v.uses (among_beside f.hosts g.hosts _ _ v.hosts v.local_binds))) fit.idents;
  props = all_among is_prop f.props g.props v.props fit.props;
  resolved = among_trans f.uses g.uses c.declared v.uses fit.resolved;
  known = among_trans f.hosts g.hosts c.hosts v.hosts fit.known;
  local =
      among_trans f.locals g.locals f.local_binds v.locals
      (among_trans g.locals g.local_binds f.local_binds fit.local v.locals_back);
  apart = apart_among f.local_binds g.local_binds (f.uses ++ f.hosts) v.local_binds
      (apart_swap (f.uses ++ f.hosts) g.local_binds (apart_among (f.uses ++ f.hosts) (g.uses ++ g.hosts) g.local_binds
      (among_beside f.uses g.uses f.hosts g.hosts v.uses v.hosts)
      (apart_swap g.local_binds (g.uses ++ g.hosts) fit.apart)));
  taken = among_trans f.takes g.takes c.exports v.takes fit.taken;
  described = among_trans f.keys g.keys c.keys v.keys fit.described;
  formed = all_among is_computed f.keys g.keys v.keys fit.formed;
  opened = apart_among f.opened g.opened the_module v.opened fit.opened;
  gated = among_trans f.gated g.gated the_module v.gated fit.gated;
}
