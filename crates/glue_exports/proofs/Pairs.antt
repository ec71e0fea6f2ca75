-- Pairs that are published: what stands at paths, and the objects of the namespaces that the paths run through.
use Rattle.std.proofs.Common.{◌≡◌, ℕ, Less, Bool, true, false, not, ◌||◌, true≢false, List, [], ◌∷◌, ◌++◌, map, filter, flat_map, refl, sym, ap, subst, ◌∙◌, ◌⊎◌, inl, inr}
use Rattle.std.proofs.lemmas.Bool.{cases_Bool, or_cases, or_left, or_right, not-true}
use Rattle.std.specs.List.{list_any}
use Rattle.values.specs.Lists.{IsIn, AreDistinct}
use Rattle.values.proofs.Members.{in_left, in_right, in_either, distinct_both}
use Rattle.glue_words.specs.declared.item.Thing.TheVariants as thing
use Rattle.glue_shared.specs.Paths.{Path}
use Rattle.glue_targets.specs.PublicTree.{PublicPair, fronts, same_path, is_taken, groups_of}
use Rattle.glue_exports.specs.Fronts.{path_order, runs_through}
use Rattle.glue_exports.proofs.Joined.{in_last, apart_each, last_distinct, from_filter, in_filter, filter_distinct, any_in, from_any, none_any, in_map, from_map, map_distinct, in_flat, from_flat}
use Rattle.glue_exports.proofs.Order.{IsUnder, same_is, is_same, runs_in, in_runs, fronts_distinct, not_self, not_front, front_before, front_under, under_front}

abbrev path_of : PublicPair → Path
path_of pair = pair.0

-- the object of a namespace at its path
abbrev pub group : Path → PublicPair
group front = (front, thing.Group front)

-- these, and the objects of the namespaces that their paths run through
abbrev pub with_groups : List PublicPair → List PublicPair
with_groups pairs = pairs ++ groups_of pairs

-- exactly these and their namespaces' objects are published, each once
pub record Publishes (published pairs : List PublicPair) : Type 0 where
  pub only : (pair : PublicPair) → IsIn pair published → IsIn pair (with_groups pairs)
  pub all : (pair : PublicPair) → IsIn pair (with_groups pairs) → IsIn pair published
  pub once : AreDistinct published

-- ---- groups

-- the path is a front of a pair's path, and no pair stands there
pub record IsGroup (pairs : List PublicPair) (front : Path) : Type 0 where
  pub owner : PublicPair
  pub owned : IsIn owner pairs
  pub runs : IsIn front (fronts owner.0)
  pub free : (other : PublicPair) → IsIn other pairs → other.0 ≡ front → ⊥

abbrev pair_fronts : PublicPair → List Path
pair_fronts pair = fronts pair.0

abbrev is_free : List PublicPair → Path → Bool
is_free pairs front = not (is_taken pairs front)

-- the list of groups holds exactly these
pub in_groups : (pairs : List PublicPair) (front : Path) → IsGroup pairs front → IsIn (group front) (groups_of pairs)
in_groups pairs front g =
    let here = in_flat pair_fronts g.owner front pairs g.owned g.runs in
    let untaken = none_any (λ (pair : PublicPair). same_path pair.0 front) pairs (λ other i e. g.free other i (same_is other.0 front e)) in
    in_map group front (filter (is_free pairs) (flat_map pair_fronts pairs))
    (in_filter (is_free pairs) front (flat_map pair_fronts pairs) here (ap not untaken))

pub from_groups : (pairs : List PublicPair) (pair : PublicPair) → IsIn pair (groups_of pairs) → (front : Path) × (pair ≡ group front) × IsGroup pairs front
from_groups pairs pair i =
    let m = from_map group pair (filter (is_free pairs) (flat_map pair_fronts pairs)) i in
    let front = m.0 in
    let kept = from_filter (is_free pairs) front (flat_map pair_fronts pairs) m.1 in
    let owner = from_flat pair_fronts front pairs kept.0 in (
      front,
      m.2,
      record {
        owner = owner.0;
        owned = owner.1;
        runs = owner.2;
        free = λ other k e.
            true≢false (sym (any_in (λ (pair : PublicPair). same_path pair.0 front) other pairs k (is_same other.0 front e)) ∙ not-true (is_taken pairs front) kept.1);
      },
    )

pub own_in : (pairs : List PublicPair) (pair : PublicPair) → IsIn pair pairs → IsIn pair (with_groups pairs)
own_in pairs pair i = in_left pair pairs (groups_of pairs) i

pub group_in : (pairs : List PublicPair) (front : Path) → IsGroup pairs front → IsIn (group front) (with_groups pairs)
group_in pairs front g = in_right (group front) pairs (groups_of pairs) (in_groups pairs front g)

-- what pairs have, and the objects of their namespaces
pub each_with : (P : PublicPair → Type 0) (pairs : List PublicPair) → ((pair : PublicPair) → IsIn pair pairs → P pair)
    → ((front : Path) → IsGroup pairs front → P (group front)) → (pair : PublicPair) → IsIn pair (with_groups pairs) → P pair
each_with P pairs own among pair i = elim (in_either pair pairs (groups_of pairs) i) [
  | inl here ↦ own pair here
  | inr there ↦ let r = from_groups pairs pair there in subst P (sym r.1) (among r.0 r.2)
]

-- ---- what stands at a path

-- a pair stands at the path, or runs through it
abbrev pub stands : List PublicPair → Path → Bool
stands pairs path = list_any (λ (pair : PublicPair). same_path pair.0 path || runs_through pair.0 path) pairs

-- what that says of the pairs
pub from_stands : (pairs : List PublicPair) (path : Path) → stands pairs path ≡ true
    → (pair : PublicPair) × IsIn pair pairs × ((pair.0 ≡ path) ⊎ IsIn path (fronts pair.0))
from_stands pairs path h =
    let r = from_any (λ (pair : PublicPair). same_path pair.0 path || runs_through pair.0 path) pairs h in (
      r.0,
      r.1,
      elim (or_cases (same_path r.0.0 path) (runs_through r.0.0 path) r.2) [
        | inl same ↦ inl (same_is r.0.0 path same)
        | inr runs ↦ inr (runs_in r.0.0 path runs)
      ],
    )

pub stands_at : (pairs : List PublicPair) (path : Path) (pair : PublicPair) → IsIn pair pairs → pair.0 ≡ path → stands pairs path ≡ true
stands_at pairs path pair i same =
    any_in (λ (pair : PublicPair). same_path pair.0 path || runs_through pair.0 path) pair pairs i
    (or_left (same_path pair.0 path) (runs_through pair.0 path) (is_same pair.0 path same))

pub stands_through : (pairs : List PublicPair) (path : Path) (pair : PublicPair) → IsIn pair pairs → IsIn path (fronts pair.0) → stands pairs path ≡ true
stands_through pairs path pair i runs =
    any_in (λ (pair : PublicPair). same_path pair.0 path || runs_through pair.0 path) pair pairs i
    (or_right (same_path pair.0 path) (runs_through pair.0 path) (in_runs pair.0 path runs))

-- ---- one pair more

-- the fronts of a path at which nothing stands
abbrev pub free_fronts : List PublicPair → Path → List Path
free_fronts pairs path = filter (λ front. not (stands pairs front)) (fronts path)

-- what a pair at this path puts beside these
abbrev pub placed_pairs : List PublicPair → PublicPair → List PublicPair
placed_pairs pairs pair = map group (free_fronts pairs pair.0) ++ pair ∷ []

pub published_none : Publishes [] []
published_none = record { only = λ pair i. i; all = λ pair i. i; once = tt }

module _ (published pairs : List PublicPair) (h : Publishes published pairs) (last : PublicPair)
    (above : (other : PublicPair) → IsIn other pairs → path_order other.0 last.0 ≡ Less) where
  abbrev all_pairs : List PublicPair
  all_pairs = pairs ++ last ∷ []

  abbrev new_pairs : List PublicPair
  new_pairs = placed_pairs pairs last

  abbrev new_fronts : List Path
  new_fronts = free_fronts pairs last.0

  new_front : (front : Path) → IsIn front new_fronts → IsIn front (fronts last.0) × (stands pairs front ≡ false)
  new_front front i = let r = from_filter (λ f. not (stands pairs f)) front (fronts last.0) i in (r.0, not-true (stands pairs front) r.1)

  -- no front of the last path is that path
  not_last : (front : Path) → IsIn front (fronts last.0) → last.0 ≡ front → ⊥
  not_last front i same = not_self front last.0 (front_before last.0 front i) (sym same)

  -- the namespaces are those before and the new ones
  still_group : (front : Path) → IsGroup pairs front → IsGroup all_pairs front
  still_group front g = record {
    owner = g.owner;
    owned = in_left g.owner pairs (last ∷ []) g.owned;
    runs = g.runs;
    free = λ pair i e. elim (in_last pair last pairs i) [
      | inl before ↦ g.free pair before e
      | inr same ↦ not_front g.owner.0 last.0 (above g.owner g.owned) (rw (sym e ∙ ap path_of same) at g.runs)
    ];
  }

  new_group : (front : Path) → IsIn front new_fronts → IsGroup all_pairs front
  new_group front i =
      let new = new_front front i in
      record {
        owner = last;
        owned = in_right last pairs (last ∷ []) (inl refl);
        runs = new.0;
        free = λ pair k e. elim (in_last pair last pairs k) [
          | inl before ↦ true≢false (sym (stands_at pairs front pair before e) ∙ new.1)
          | inr same ↦ not_last front new.0 (ap path_of (sym same) ∙ e)
        ];
      }

  group_published : (front : Path) → IsGroup pairs front → IsIn (group front) (published ++ new_pairs)
  group_published front g = in_left (group front) published new_pairs (h.all (group front) (group_in pairs front g))

  front_published : (front : Path) → IsIn front (fronts last.0) → ((other : PublicPair) → IsIn other pairs → other.0 ≡ front → ⊥)
      → IsIn (group front) (published ++ new_pairs)
  front_published front runs free = elim (cases_Bool (stands pairs front)) [
    | inl there ↦
        let r = from_stands pairs front there in
        elim r.2 [
          | inl same ↦ absurd (free r.0 r.1 same)
          | inr through ↦ group_published front (record { owner = r.0; owned = r.1; runs = through; free = free })
        ]
    | inr nowhere ↦
        in_right (group front) published new_pairs
        (in_left (group front) (map group new_fronts) (last ∷ [])
        (in_map group front new_fronts (in_filter (λ f. not (stands pairs f)) front (fronts last.0) runs (ap not nowhere))))
  ]

  more_only : (pair : PublicPair) → IsIn pair (published ++ new_pairs) → IsIn pair (with_groups all_pairs)
  more_only pair i = elim (in_either pair published new_pairs i) [
    | inl before ↦
        each_with (λ p. IsIn p (with_groups all_pairs)) pairs (λ p k. own_in all_pairs p (in_left p pairs (last ∷ []) k))
        (λ front g. group_in all_pairs front (still_group front g)) pair (h.only pair before)
    | inr here ↦ elim (in_last pair last (map group new_fronts) here) [
      | inl new ↦ let m = from_map group pair new_fronts new in rw m.2 (group_in all_pairs m.0 (new_group m.0 m.1))
      | inr same ↦ own_in all_pairs pair (in_right pair pairs (last ∷ []) (inl same))
    ]
  ]

  more_all : (pair : PublicPair) → IsIn pair (with_groups all_pairs) → IsIn pair (published ++ new_pairs)
  more_all =
      each_with (λ p. IsIn p (published ++ new_pairs)) all_pairs
      (λ p i. elim (in_last p last pairs i) [
        | inl before ↦ in_left p published new_pairs (h.all p (own_in pairs p before))
        | inr same ↦ in_right p published new_pairs (in_right p (map group new_fronts) (last ∷ []) (inl same))
      ])
      (λ front g.
      let free : (other : PublicPair) → IsIn other pairs → other.0 ≡ front → ⊥ = λ other i. g.free other (in_left other pairs (last ∷ []) i) in
      elim (in_last g.owner last pairs g.owned) [
        | inl before ↦ group_published front (record { owner = g.owner; owned = before; runs = g.runs; free = free })
        | inr same ↦ front_published front (rw same at g.runs) free
      ])

  -- what is published before stands at a path, and what is new doesn't
  stood : (pair : PublicPair) → IsIn pair published → stands pairs pair.0 ≡ true
  stood pair i =
      each_with (λ p. stands pairs p.0 ≡ true) pairs (λ p k. stands_at pairs p.0 p k refl)
      (λ front g. stands_through pairs front g.owner g.owned g.runs) pair (h.only pair i)

  last_new : stands pairs last.0 ≡ true → ⊥
  last_new e =
      let r = from_stands pairs last.0 e in
      elim r.2 [
        | inl same ↦ not_self r.0.0 last.0 (above r.0 r.1) same
        | inr through ↦ not_front r.0.0 last.0 (above r.0 r.1) through
      ]

  new_apart : (pair : PublicPair) → IsIn pair published → IsIn pair new_pairs → ⊥
  new_apart pair i k = elim (in_last pair last (map group new_fronts) k) [
    | inl new ↦
        let m = from_map group pair new_fronts new in
        true≢false (sym (stood pair i) ∙ ap (stands pairs) (ap path_of m.2) ∙ (new_front m.0 m.1).1)
    | inr same ↦ last_new (rw same at (stood pair i))
  ]

  new_once : AreDistinct new_pairs
  new_once =
      last_distinct (map group new_fronts) last
      (map_distinct group (λ x y e. ap path_of e) new_fronts (filter_distinct (λ f. not (stands pairs f)) (fronts last.0) (fronts_distinct last.0)))
      (λ i. let m = from_map group last new_fronts i in not_last m.0 (new_front m.0 m.1).0 (ap path_of m.2))

  -- a pair that stands behind the others adds itself and the objects at fronts where nothing stands
  pub published_more : Publishes (published ++ new_pairs) all_pairs
  published_more = record {
    only = more_only;
    all = more_all;
    once = distinct_both published new_pairs h.once new_once (apart_each published new_pairs new_apart);
  }

-- ---- what stands under one segment, and what doesn't

module _ (segment : List ℕ) (published more pairs others : List PublicPair)
    (under : (pair : PublicPair) → IsIn pair pairs → IsUnder segment pair.0)
    (away : (pair : PublicPair) → IsIn pair others → IsUnder segment pair.0 → ⊥)
    (first : Publishes published pairs) (second : Publishes more others) where
  group_under : (front : Path) → IsGroup pairs front → IsUnder segment front
  group_under front g = front_under segment g.owner.0 front g.runs (under g.owner g.owned)

  group_away : (front : Path) → IsGroup others front → IsUnder segment front → ⊥
  group_away front g u = away g.owner g.owned (under_front segment g.owner.0 front g.runs u)

  group_left : (front : Path) → IsGroup pairs front → IsGroup (pairs ++ others) front
  group_left front g = record {
    owner = g.owner;
    owned = in_left g.owner pairs others g.owned;
    runs = g.runs;
    free = λ pair i e. elim (in_either pair pairs others i) [
      | inl here ↦ g.free pair here e
      | inr there ↦ away pair there (rw e (group_under front g))
    ];
  }

  group_right : (front : Path) → IsGroup others front → IsGroup (pairs ++ others) front
  group_right front g = record {
    owner = g.owner;
    owned = in_right g.owner pairs others g.owned;
    runs = g.runs;
    free = λ pair i e. elim (in_either pair pairs others i) [
      | inl here ↦ group_away front g (rw e at (under pair here))
      | inr there ↦ g.free pair there e
    ];
  }

  both_only : (pair : PublicPair) → IsIn pair (published ++ more) → IsIn pair (with_groups (pairs ++ others))
  both_only pair i = elim (in_either pair published more i) [
    | inl here ↦
        each_with (λ p. IsIn p (with_groups (pairs ++ others))) pairs (λ p k. own_in (pairs ++ others) p (in_left p pairs others k))
        (λ front g. group_in (pairs ++ others) front (group_left front g)) pair (first.only pair here)
    | inr there ↦
        each_with (λ p. IsIn p (with_groups (pairs ++ others))) others (λ p k. own_in (pairs ++ others) p (in_right p pairs others k))
        (λ front g. group_in (pairs ++ others) front (group_right front g)) pair (second.only pair there)
  ]

  from_first : (pair : PublicPair) → IsIn pair (with_groups pairs) → IsIn pair (published ++ more)
  from_first pair i = in_left pair published more (first.all pair i)

  from_second : (pair : PublicPair) → IsIn pair (with_groups others) → IsIn pair (published ++ more)
  from_second pair i = in_right pair published more (second.all pair i)

  both_all : (pair : PublicPair) → IsIn pair (with_groups (pairs ++ others)) → IsIn pair (published ++ more)
  both_all =
      each_with (λ p. IsIn p (published ++ more)) (pairs ++ others)
      (λ p i. elim (in_either p pairs others i) [
        | inl here ↦ from_first p (own_in pairs p here)
        | inr there ↦ from_second p (own_in others p there)
      ])
      (λ front g. elim (in_either g.owner pairs others g.owned) [
        | inl here ↦
            from_first (group front) (group_in pairs front (record { owner = g.owner; owned = here; runs = g.runs; free = λ p i. g.free p (in_left p pairs others i) }))
        | inr there ↦
            from_second (group front) (group_in others front (record { owner = g.owner; owned = there; runs = g.runs; free = λ p i. g.free p (in_right p pairs others i) }))
      ])

  both_apart : (pair : PublicPair) → IsIn pair published → IsIn pair more → ⊥
  both_apart pair i k =
      each_with (λ p. IsUnder segment p.0 → ⊥) others away group_away pair (second.only pair k)
      (each_with (λ p. IsUnder segment p.0) pairs under group_under pair (first.only pair i))

  -- what is published under a segment, and what is published elsewhere
  pub published_both : Publishes (published ++ more) (pairs ++ others)
  published_both = record {
    only = both_only;
    all = both_all;
    once = distinct_both published more first.once second.once (apart_each published more both_apart);
  }

-- ---- in another order

-- the first pair last
pub published_moved : (pair : PublicPair) (published pairs : List PublicPair) → Publishes (pair ∷ published) pairs → Publishes (published ++ pair ∷ []) pairs
published_moved pair published pairs h = record {
  only = λ x i. h.only x (elim (in_last x pair published i) [ inl there ↦ inr there | inr same ↦ inl same ]);
  all = λ x i. elim (h.all x i) [
    | inl same ↦ in_right x published (pair ∷ []) (inl same)
    | inr there ↦ in_left x published (pair ∷ []) there
  ];
  once = last_distinct published pair h.once.1 h.once.0;
}
