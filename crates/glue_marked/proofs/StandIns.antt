-- Texts with stand-ins for names: they fit where the names that stand for them are identifiers, no local name of the
-- text, and not `wasm`, and what the renamed text uses is there.
use Rattle.std.proofs.Common.{◌≡◌, ℕ, List, ◌∷◌, [], ◌++◌, inl, inr, ◌⊎◌, refl, ap, sym, ◌∙◌, subst, Bool, true}
use Rattle.std.proofs.Common.{false, map}
use Rattle.std.proofs.lemmas.Bool.{and_parts}
use Rattle.std.proofs.lemmas.Slice.Eq.{bytes_eq-Decides}
use Rattle.std.specs.Prelude.{Some, None, codes, ◌&&◌}
use Rattle.std.specs.List.{list_all}
use Rattle.std.specs.Str.{bytes_eq}
use Rattle.values.specs.Lists.{IsIn, IsAway, AreApart}
use Rattle.glue_words.specs.declared.word.Word.{Word}
use Rattle.glue_words.specs.declared.word.Word.TheVariants.{Bind}
use Rattle.glue_words.specs.Ident.{is_ident}
use Rattle.glue_words.specs.Limits.{is_prop}
use Rattle.glue_words.specs.Linking.{AreAmong}
use Rattle.glue_words.proofs.Among.{apart_in, apart_swap}
use Rattle.glue_words.proofs.Idents.{ident_prop}
use Rattle.glue_marked.specs.StandIns.{Names, name_for, renamed_word, renamed}
use Rattle.glue_words.specs.Facts.{Facts, facts, Ends}
use Rattle.glue_words.proofs.Belonging.{Context}
use Rattle.glue_words.proofs.Fitting.{Fits, are_free_ends, is_gap_word, is_closed, the_module}
use Rattle.glue_marked.proofs.ShippedFacts.{short, is_shipped, IsShipped, shipped_by_test, fits_shipped, Covers}
use Rattle.glue_marked.proofs.ShippedFacts.{covers_short, fits_covered, none_in, apart_by_test}
use Rattle.glue_marked.proofs.Renamed.{renamed_ends, renamed_facts, facts-renamed, access}

-- ---- names for stand-ins

abbrev pub stand_ins : Names → List (List ℕ)
stand_ins names = map (λ (e : List ℕ × List ℕ). e.0) names

abbrev pub given : Names → List (List ℕ)
given names = map (λ (e : List ℕ × List ℕ). e.1) names

either : (names : Names) (name : List ℕ) → (name_for names name ≡ name) ⊎ IsIn (name_for names name) (given names)
either [] name = inl refl
either (e ∷ names) name = one (bytes_eq e.0 name) (either names name)
  where
    one : (b : Bool) → (name_for names name ≡ name) ⊎ IsIn (name_for names name) (given names)
        → (elim b [ true ↦ e.1 | false ↦ name_for names name ]
        ≡ name) ⊎ IsIn (elim b [ true ↦ e.1 | false ↦ name_for names name ]) (given (e ∷ names))
    one true rest = inr (inl refl)
    one false (inl same) = inl same
    one false (inr at) = inr (inr at)

-- a name that is no stand-in stays
stays : (names : Names) (name : List ℕ) → IsAway name (stand_ins names) → name_for names name ≡ name
stays [] name away = refl
stays (e ∷ names) name away = one (bytes_eq e.0 name) refl (stays names name (λ at. away (inr at)))
  where
    one : (b : Bool) → bytes_eq e.0 name ≡ b → name_for names name ≡ name
        → elim b [ true ↦ e.1 | false ↦ name_for names name ] ≡ name
    one true same rest = absurd (away (inl (sym ((bytes_eq-Decides e.0 name).0 same))))
    one false same rest = rest

map_stays : (names : Names) (xs : List (List ℕ)) → AreApart xs (stand_ins names) → map (name_for names) xs ≡ xs
map_stays names [] h = refl
map_stays names (x ∷ xs) h = rw (stays names x h.0, map_stays names xs h.1) refl

all_in_list : (test : List ℕ → Bool) (x : List ℕ) (xs : List (List ℕ)) → list_all test xs ≡ true → IsIn x xs
    → test x ≡ true
all_in_list test x [] h at = absurd at
all_in_list test x (y ∷ xs) h (inl same) = ap test same ∙ (and_parts (test y) (list_all test xs) h).0
all_in_list test x (y ∷ xs) h (inr at) = all_in_list test x xs (and_parts (test y) (list_all test xs) h).1 at

-- a test that names pass, and those that are given, is passed by renamed names
all_renamed : (test : List ℕ → Bool) (names : Names) (xs : List (List ℕ)) → list_all test (given names) ≡ true
    → list_all test xs ≡ true → list_all test (map (name_for names) xs) ≡ true
all_renamed test names [] g h = refl
all_renamed test names (x ∷ xs) g h =
    let p = and_parts (test x) (list_all test xs) h in
    let here : test (name_for names x) ≡ true =
    elim (either names x) [
      | inl same ↦ ap test same ∙ p.0
      | inr at ↦ all_in_list test (name_for names x) (given names) g at
    ] in
    rw (here, all_renamed test names xs g p.1) refl

apart_renamed : (names : Names) (xs ys : List (List ℕ)) → AreApart (given names) ys → AreApart xs ys
    → AreApart (map (name_for names) xs) ys
apart_renamed names [] ys g h = tt
apart_renamed names (x ∷ xs) ys g h = (
  elim (either names x) [
    | inl same ↦ subst (λ (n : List ℕ). IsAway n ys) (sym same) h.0
    | inr at ↦ apart_in (name_for names x) (given names) ys g at
  ],
  apart_renamed names xs ys g h.1,
)

in_map : (names : Names) (x : List ℕ) (xs : List (List ℕ)) → IsIn x xs
    → IsIn (name_for names x) (map (name_for names) xs)
in_map names x [] at = absurd at
in_map names x (y ∷ xs) (inl same) = inl (ap (name_for names) same)
in_map names x (y ∷ xs) (inr at) = inr (in_map names x xs at)

among_map : (names : Names) (xs ys : List (List ℕ)) → AreAmong xs ys
    → AreAmong (map (name_for names) xs) (map (name_for names) ys)
among_map names [] ys h = tt
among_map names (x ∷ xs) ys h = (in_map names x ys h.0, among_map names xs ys h.1)

map_joined : (names : Names) (xs ys : List (List ℕ))
    → map (name_for names) (xs ++ ys) ≡ map (name_for names) xs ++ map (name_for names) ys
map_joined names [] ys = refl
map_joined names (x ∷ xs) ys = ap (λ (ns : List (List ℕ)). name_for names x ∷ ns) (map_joined names xs ys)

idents_props : (names : List (List ℕ)) → list_all is_ident names ≡ true → list_all is_prop names ≡ true
idents_props [] h = refl
idents_props (name ∷ names) h =
    let p = and_parts (is_ident name) (list_all is_ident names) h in rw (
      ident_prop name p.0,
      idents_props names p.1,
    ) refl

-- ---- a text that is shipped stays so

-- what is asked of names for the stand-ins of a text
pub record Suit (names : Names) (f : Facts) : Type 0 where
  pub idents : list_all is_ident (given names) ≡ true
  pub no_locals : AreApart (given names) f.local_binds
  pub no_module : AreApart (given names) the_module
  pub marked : none_in (the_module ++ f.local_binds) (stand_ins names) ≡ true

gap_renamed : (names texts : Names) (word : Word)
    → is_gap_word (renamed_word (name_for names) (name_for texts) word) ≡ is_gap_word word
gap_renamed names texts (Bind name) = refl
gap_renamed names texts word = refl

free_ends : (names texts : Names) (e : Ends)
    → are_free_ends (renamed_ends (name_for names) (name_for texts) e) ≡ are_free_ends e
free_ends names texts None = refl
free_ends names texts (Some e) = rw (access (name_for names) (name_for texts) e.0, gap_renamed names texts e.1) refl

map_parts : (names : Names) (a b c d : List (List ℕ)) → map (name_for names) (a ++ (b ++ (c ++ d)))
    ≡ map (name_for names) a ++ (map (name_for names) b ++ (map (name_for names) c ++ map (name_for names) d))
map_parts names a b c d =
    rw (map_joined names a (b ++ (c ++ d)), map_joined names b (c ++ d), map_joined names c d) refl

pub shipped_renamed : (names texts : Names) (f : Facts) → Suit names f → IsShipped f
    → IsShipped (renamed_facts (name_for names) (name_for texts) f)
shipped_renamed names texts f suit s =
    let n = name_for names in
    let marked = apart_by_test (the_module ++ f.local_binds) (stand_ins names) suit.marked in
    let local : map n f.local_binds ≡ f.local_binds = map_stays names f.local_binds marked.1 in
    let outside = apart_renamed names (f.uses
    ++ f.hosts) f.local_binds suit.no_locals (apart_swap f.local_binds (f.uses ++ f.hosts) s.apart) in record {
      alone =
          ap (λ (b : Bool). ((f.proper && f.spaced) && (f.outside && is_closed f.turn))
          && b) (free_ends names texts f.ends) ∙ s.alone;
      idents =
          ap (list_all is_ident) (sym (map_parts names f.binds f.uses f.hosts f.local_binds))
          ∙ all_renamed is_ident names (f.binds ++ (f.uses ++ (f.hosts ++ f.local_binds))) suit.idents s.idents;
      props = all_renamed is_prop names f.props (idents_props (given names) suit.idents) s.props;
      no_keys = s.no_keys;
      local = among_map names f.locals f.local_binds s.local;
      apart = subst (λ (xs : List (List ℕ)). AreApart xs (map n f.uses ++ map n f.hosts)) (sym local)
          (apart_swap (map n f.uses
          ++ map n f.hosts) f.local_binds
          (subst (λ (xs : List (List ℕ)). AreApart xs f.local_binds) (map_joined names f.uses f.hosts) outside));
      opened = apart_renamed names f.opened the_module suit.no_module s.opened;
      gated =
          subst (AreAmong (map n f.gated)) (ap (λ (x : List ℕ). x ∷ []) (stays names (codes "wasm") marked.0))
          (among_map names f.gated the_module s.gated);
    }

covers_renamed : (names texts : Names) (g f : Facts) → Covers g f
    → Covers (renamed_facts (name_for names) (name_for texts) g) (renamed_facts (name_for names) (name_for texts) f)
covers_renamed names texts g f v = record {
  alone =
      ap (λ (b : Bool). ((g.proper && g.spaced) && (g.outside && is_closed g.turn)) && b) (free_ends names texts g.ends)
      ∙ (v.alone ∙ sym (ap (λ (b : Bool). ((f.proper && f.spaced) && (f.outside && is_closed f.turn))
      && b) (free_ends names texts f.ends)));
  binds = among_map names f.binds g.binds v.binds;
  uses = among_map names f.uses g.uses v.uses;
  hosts = among_map names f.hosts g.hosts v.hosts;
  local_binds = among_map names f.local_binds g.local_binds v.local_binds;
  locals_back = among_map names g.local_binds f.local_binds v.locals_back;
  locals = among_map names f.locals g.locals v.locals;
  takes = among_map texts f.takes g.takes v.takes;
  keys = v.keys;
  props = among_map names f.props g.props v.props;
  opened = among_map names f.opened g.opened v.opened;
  gated = among_map names f.gated g.gated v.gated;
}

-- a text of known names fits where the names that it asks for are there
pub text_fits : (c : Context) (words : List Word) → is_shipped (short (facts words)) ≡ true
    → AreAmong (short (facts words)).uses c.declared → AreAmong (short (facts words)).hosts c.hosts
    → AreAmong (short (facts words)).takes c.exports → Fits c (facts words)
text_fits c words shipped u h t =
    let f = facts words in
    fits_covered c (short f) f (covers_short f) (fits_shipped c (short f) (shipped_by_test (short f) shipped) u h t)

-- and so does one with names for its stand-ins
pub renamed_text_fits : (c : Context) (words : List Word) (names texts : Names)
    → is_shipped (short (facts words)) ≡ true → Suit names (short (facts words))
    → AreAmong (map (name_for names) (short (facts words)).uses) c.declared
    → AreAmong (map (name_for names) (short (facts words)).hosts) c.hosts
    → AreAmong (map (name_for texts) (short (facts words)).takes) c.exports
    → Fits c (facts (renamed (name_for names) (name_for texts) words))
renamed_text_fits c words names texts shipped suit u h k =
    let f = facts words in
    let n = name_for names in
    let t = name_for texts in
    subst (Fits c) (sym (facts-renamed n t words))
    (fits_covered c (renamed_facts n t (short f)) (renamed_facts n t f)
    (covers_renamed names texts (short f) f (covers_short f))
    (fits_shipped c (renamed_facts n t (short f))
    (shipped_renamed names texts (short f) suit (shipped_by_test (short f) shipped)) u h k))

-- ---- texts with stand-ins for texts alone

same_names : (names : List (List ℕ)) → map (name_for []) names ≡ names
same_names [] = refl
same_names (name ∷ names) = ap (λ (ns : List (List ℕ)). name ∷ ns) (same_names names)

none_in_none : (names : List (List ℕ)) → none_in names [] ≡ true
none_in_none [] = refl
none_in_none (name ∷ names) = none_in_none names

-- one with stand-ins for exports, names for the outside and texts fits where the names that it asks for are there
pub respelled_text_fits : (c : Context) (words : List Word) (texts : Names) → is_shipped (short (facts words)) ≡ true
    → AreAmong (short (facts words)).uses c.declared → AreAmong (short (facts words)).hosts c.hosts
    → AreAmong (map (name_for texts) (short (facts words)).takes) c.exports
    → Fits c (facts (renamed (name_for []) (name_for texts) words))
respelled_text_fits c words texts shipped u h k =
    let f = short (facts words) in
    renamed_text_fits c words [] texts shipped
    (record { idents = refl; no_locals = tt; no_module = tt; marked = none_in_none (the_module ++ f.local_binds) })
    (subst (λ (xs : List (List ℕ)). AreAmong xs c.declared) (sym (same_names f.uses)) u)
    (subst (λ (xs : List (List ℕ)). AreAmong xs c.hosts) (sym (same_names f.hosts)) h) k
