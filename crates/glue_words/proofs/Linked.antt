-- The parts of linked items over joined lists, and over whole lists of names.
use Rattle.std.proofs.Common.{◌≡◌, ℕ, List, ◌∷◌, [], ◌++◌, ap, sym, ◌∙◌, subst, append_assoc}
use Rattle.std.proofs.lemmas.List.{append-nil}
use Rattle.std.specs.Prelude.{Option}
use Rattle.std.specs.List.{filter_map}
use Rattle.std.proofs.lemmas.Grind.{flat_map-append}
use Rattle.std.proofs.lemmas.List.Elements.{filter_map-append}
use Rattle.values.specs.Lists.{AreDistinct, AreApart}
use Rattle.values.proofs.Members.{distinct_both}
use Rattle.glue_words.specs.declared.item.Item.{Item}
use Rattle.glue_words.specs.declared.word.Word.{Word}
use Rattle.glue_words.specs.Words.{words_of}
use Rattle.glue_words.specs.Names.{bound_name, used_name, hosted_name, bound_in, used_in, hosted_in, bound_names}
use Rattle.glue_words.specs.Linking.{EachItem, AreAmong, IsBoundOnce, IsResolved, BindsOnce, Resolves}
use Rattle.glue_words.proofs.Among.{among_both, among_parts, apart_swap, apart_both, apart_parts, apart_joined, apart_split, distinct_parts}

-- ---- names

-- the names of the module's scope that items use, in order
abbrev pub used_names : List Item → List (List ℕ)
used_names items = used_in (words_of items)

-- the host's names that items use, in order
abbrev pub hosted_names : List Item → List (List ℕ)
hosted_names items = hosted_in (words_of items)

-- ---- any part

pub each_join : (P : List Item → Item → List Item → Type 0) (before xs ys : List Item) → EachItem (λ b i a. P b i (a ++ ys)) before xs → EachItem P (before ++ xs) ys → EachItem P before (xs ++ ys)
each_join P before [] ys h k = subst (λ (b : List Item). EachItem P b ys) (append-nil before) k
each_join P before (x ∷ xs) ys h k =
    (h.0, each_join P (before ++ x ∷ []) xs ys h.1 (subst (λ (b : List Item). EachItem P b ys) (sym (append_assoc before (x ∷ []) xs)) k))

pub each_split : (P : List Item → Item → List Item → Type 0) (before xs ys : List Item) → EachItem P before (xs ++ ys) → EachItem (λ b i a. P b i (a ++ ys)) before xs × EachItem P (before ++ xs) ys
each_split P before [] ys h = (tt, subst (λ (b : List Item). EachItem P b ys) (sym (append-nil before)) h)
each_split P before (x ∷ xs) ys h =
    let rest = each_split P (before ++ x ∷ []) xs ys h.1 in
    ((h.0, rest.0), subst (λ (b : List Item). EachItem P b ys) (append_assoc before (x ∷ []) xs) rest.1)

pub each_map : (P Q : List Item → Item → List Item → Type 0) (before items : List Item) → ((b : List Item) (i : Item) (a : List Item) → P b i a → Q b i a) → EachItem P before items → EachItem Q before items
each_map P Q before [] f h = tt
each_map P Q before (item ∷ items) f h = (f before item items h.0, each_map P Q (before ++ item ∷ []) items f h.1)

pub each_both : (P Q : List Item → Item → List Item → Type 0) (before items : List Item) → EachItem P before items → EachItem Q before items → EachItem (λ b i a. P b i a × Q b i a) before items
each_both P Q before [] h k = tt
each_both P Q before (item ∷ items) h k = ((h.0, k.0), each_both P Q (before ++ item ∷ []) items h.1 k.1)

-- the items before may be taken apart
pub each_behind : (P : List Item → Item → List Item → Type 0) (front before items : List Item) → EachItem (λ b i a. P (front ++ b) i a) before items → EachItem P (front ++ before) items
each_behind P front before [] h = tt
each_behind P front before (item ∷ items) h =
    (h.0, subst (λ (b : List Item). EachItem P b items) (sym (append_assoc front before (item ∷ []))) (each_behind P front (before ++ item ∷ []) items h.1))

pub each_ahead : (P : List Item → Item → List Item → Type 0) (front before items : List Item) → EachItem P (front ++ before) items → EachItem (λ b i a. P (front ++ b) i a) before items
each_ahead P front before [] h = tt
each_ahead P front before (item ∷ items) h =
    (h.0, each_ahead P front (before ++ item ∷ []) items (subst (λ (b : List Item). EachItem P b items) (append_assoc front before (item ∷ [])) h.1))

-- ---- names of joined items

pub names-append : (name : Word → Option (List ℕ)) (xs ys : List Item) → filter_map name (words_of (xs ++ ys)) ≡ filter_map name (words_of xs) ++ filter_map name (words_of ys)
names-append name xs ys =
    ap (filter_map name) (flat_map-append (λ (item : Item). item.words) xs ys) ∙ filter_map-append name (words_of xs) (words_of ys)

pub names-cons : (name : Word → Option (List ℕ)) (item : Item) (items : List Item) → filter_map name (words_of (item ∷ items)) ≡ filter_map name item.words ++ filter_map name (words_of items)
names-cons name item items = filter_map-append name item.words (words_of items)

pub names-one : (name : Word → Option (List ℕ)) (item : Item) → filter_map name (words_of (item ∷ [])) ≡ filter_map name item.words
names-one name item = ap (filter_map name) (append-nil item.words)

pub names-last : (name : Word → Option (List ℕ)) (before : List Item) (item : Item) → filter_map name (words_of (before ++ item ∷ [])) ≡ filter_map name (words_of before) ++ filter_map name item.words
names-last name before item = names-append name before (item ∷ []) ∙ ap (λ (xs : List (List ℕ)). filter_map name (words_of before) ++ xs) (names-one name item)

-- ---- declared once

-- from whole lists of names
pub bound_once_from : (hosts : List (List ℕ)) (before items : List Item) → AreDistinct (bound_names items) → AreApart (bound_names items) hosts → AreApart (bound_names items) (bound_names before) → EachItem (IsBoundOnce hosts) before items
bound_once_from hosts before [] d h n = tt
bound_once_from hosts before (item ∷ items) d h n =
    let e = names-cons bound_name item items in
    let ds = distinct_parts (bound_in item.words) (bound_names items) (subst AreDistinct e d) in
    let hs = apart_parts (bound_in item.words) (bound_names items) hosts (subst (λ (xs : List (List ℕ)). AreApart xs hosts) e h) in
    let ns = apart_parts (bound_in item.words) (bound_names items) (bound_names before) (subst (λ (xs : List (List ℕ)). AreApart xs (bound_names before)) e n) in (
      record { distinct = ds.0; no_host = hs.0; new = ns.0 },
      bound_once_from hosts (before ++ item ∷ []) items ds.1 hs.1
          (subst (AreApart (bound_names items)) (sym (names-last bound_name before item))
          (apart_joined (bound_names items) (bound_names before) (bound_in item.words) ns.1 (apart_swap (bound_in item.words) (bound_names items) ds.2))),
    )

-- to whole lists of names
pub bound_once_to : (hosts : List (List ℕ)) (before items : List Item) → EachItem (IsBoundOnce hosts) before items → AreDistinct (bound_names items) × AreApart (bound_names items) hosts × AreApart (bound_names items) (bound_names before)
bound_once_to hosts before [] h = (tt, tt, tt)
bound_once_to hosts before (item ∷ items) h =
    let e = sym (names-cons bound_name item items) in
    let one : BindsOnce hosts (bound_names before) item.words = h.0 in
    let rest = bound_once_to hosts (before ++ item ∷ []) items h.1 in
    let apart = apart_split (bound_names items) (bound_names before) (bound_in item.words) (subst (AreApart (bound_names items)) (names-last bound_name before item) rest.2) in (
      subst AreDistinct e (distinct_both (bound_in item.words) (bound_names items) one.distinct rest.0 (apart_swap (bound_names items) (bound_in item.words) apart.1)),
      subst (λ (xs : List (List ℕ)). AreApart xs hosts) e (apart_both (bound_in item.words) (bound_names items) hosts one.no_host rest.1),
      subst (λ (xs : List (List ℕ)). AreApart xs (bound_names before)) e (apart_both (bound_in item.words) (bound_names items) (bound_names before) one.new apart.0),
    )

-- ---- resolved

pub resolved_from : (hosts : List (List ℕ)) (before items : List Item) → AreAmong (used_names items) (bound_names (before ++ items)) → AreAmong (hosted_names items) hosts → EachItem (IsResolved hosts) before items
resolved_from hosts before [] u k = tt
resolved_from hosts before (item ∷ items) u k =
    let us = among_parts (used_in item.words) (used_names items) (bound_names (before ++ item ∷ items)) (subst (λ (xs : List (List ℕ)). AreAmong xs (bound_names (before ++ item ∷ items))) (names-cons used_name item items) u) in
    let ks = among_parts (hosted_in item.words) (hosted_names items) hosts (subst (λ (xs : List (List ℕ)). AreAmong xs hosts) (names-cons hosted_name item items) k) in (
      record { bound = us.0; known = ks.0 },
      resolved_from hosts (before ++ item ∷ []) items
          (subst (λ (xs : List Item). AreAmong (used_names items) (bound_names xs)) (sym (append_assoc before (item ∷ []) items)) us.1) ks.1,
    )

pub resolved_to : (hosts : List (List ℕ)) (before items : List Item) → EachItem (IsResolved hosts) before items → AreAmong (used_names items) (bound_names (before ++ items)) × AreAmong (hosted_names items) hosts
resolved_to hosts before [] h = (tt, tt)
resolved_to hosts before (item ∷ items) h =
    let one : Resolves hosts (bound_names (before ++ item ∷ items)) item.words = h.0 in
    let rest = resolved_to hosts (before ++ item ∷ []) items h.1 in (
      subst (λ (xs : List (List ℕ)). AreAmong xs (bound_names (before ++ item ∷ items))) (sym (names-cons used_name item items))
          (among_both (used_in item.words) (used_names items) (bound_names (before ++ item ∷ items)) one.bound
          (subst (λ (xs : List Item). AreAmong (used_names items) (bound_names xs)) (append_assoc before (item ∷ []) items) rest.0)),
      subst (λ (xs : List (List ℕ)). AreAmong xs hosts) (sym (names-cons hosted_name item items)) (among_both (hosted_in item.words) (hosted_names items) hosts one.known rest.1),
    )
