-- Facts of joined words are joined facts.
use Rattle.std.proofs.Common.{◌≡◌, ℕ, zero, suc, List, ◌∷◌, [], ◌++◌, refl, ap, sym, ◌∙◌, Bool, true, false}
use Rattle.std.proofs.Common.{append_assoc}
use Rattle.std.proofs.lemmas.List.Folds.{list_all-append, list_any-append}
use Rattle.std.proofs.lemmas.List.Elements.{filter_map-append}
use Rattle.std.specs.Prelude.{Option, Some, None, ◌&&◌, ◌||◌, ◌==◌}
use Rattle.std.specs.List.{list_any}
use Rattle.glue_words.specs.declared.word.NoteKind.TheVariants.{Open, Line, Close, Slash, Block}
use Rattle.glue_words.specs.declared.word.Word.{Word}
use Rattle.glue_words.specs.declared.word.Word.TheVariants.{Punct, Key, Regex, Gap, Num, Text, Tpl, Note, Bind, Refer}
use Rattle.glue_words.specs.declared.word.Word.TheVariants.{Host, LocalBind, Local, Prop, Wasm, Outer, Splice}
use Rattle.glue_words.specs.declared.punct.TheConstants as punct
use Rattle.glue_words.specs.declared.key.TheConstants as key
use Rattle.glue_words.specs.Names.{bound_name, used_name, hosted_name, local_bound_name, local_name, wasm_name}
use Rattle.glue_words.specs.Names.{spliced_key, outer_name, is_export_key}
use Rattle.glue_words.specs.Spacing.{is_open_after, is_open, notes_stand}
use Rattle.glue_words.proofs.Spaced.{notes_stand-append}
use Rattle.glue_words.specs.Facts.{Facts, facts, joined, used_now_name, hosted_now_name, prop_name}
use Rattle.glue_words.specs.Facts.{opened_name, gated_name, meets_well, is_proper, pairs_in, all_pairs}
use Rattle.glue_words.specs.Facts.{last_of, ends_of, Ends, turn_of, later, turn_in, seam_names, seam_stands}
use Rattle.glue_words.specs.Facts.{joined_ends, stands_behind, trail_of, trail_in, lead_in, names_behind, hoisted_in}
use Rattle.glue_words.specs.Facts.{joined_lead, event_of, Levels, Last, Below, with_names, opening, opening_by, blank}
use Rattle.glue_words.specs.Facts.{is_arrow, leveled, levels_in, joined_levels, levels_behind}

last-append : (word : Word) (xs : List Word) (y : Word) (ys : List Word) → last_of word (xs ++ y ∷ ys) ≡ last_of y ys
last-append word [] y ys = refl
last-append word (x ∷ xs) y ys = last-append x xs y ys

ends-append : (xs ys : List Word) → ends_of (xs ++ ys) ≡ joined_ends (ends_of xs) (ends_of ys)
ends-append [] ys = refl
ends-append (x ∷ []) [] = refl
ends-append (x ∷ z ∷ xs) [] = ap (λ (e : Ends). joined_ends (Some (x, x)) e) (ends-append (z ∷ xs) [])
ends-append (x ∷ xs) (y ∷ ys) = ap (λ (l : Word). Some (x, l)) (last-append x xs y ys)

pairs-append : (give : Word → Word → List (List ℕ)) (xs ys : List Word)
    → pairs_in give (xs ++ ys) ≡ pairs_in give xs ++ (seam_names give (ends_of xs) (ends_of ys) ++ pairs_in give ys)
pairs-append give [] ys = refl
pairs-append give (x ∷ []) [] = refl
pairs-append give (x ∷ []) (y ∷ ys) = refl
pairs-append give (x ∷ z ∷ xs) ys =
    ap (λ (ns : List (List ℕ)). give x z ++ ns) (pairs-append give (z ∷ xs) ys)
    ∙ sym (append_assoc (give x z) (pairs_in give (z ∷ xs)) (seam_names give (ends_of (z ∷ xs)) (ends_of ys)
    ++ pairs_in give ys))

and_assoc : (a b c : Bool) → (a && (b && c)) ≡ ((a && b) && c)
and_assoc true b c = refl
and_assoc false b c = refl

all_pairs-append : (test : Word → Word → Bool) (xs ys : List Word)
    → all_pairs test (xs ++ ys)
    ≡ (all_pairs test xs && (seam_stands test (ends_of xs) (ends_of ys) && all_pairs test ys))
all_pairs-append test [] ys = refl
all_pairs-append test (x ∷ []) [] = refl
all_pairs-append test (x ∷ []) (y ∷ ys) = refl
all_pairs-append test (x ∷ z ∷ xs) ys =
    ap (λ (b : Bool). test x z && b) (all_pairs-append test (z ∷ xs) ys)
    ∙ and_assoc (test x z) (all_pairs test (z ∷ xs)) (seam_stands test (ends_of (z ∷ xs)) (ends_of ys)
    && all_pairs test ys)

later_assoc : (a b c : Option Bool) → later a (later b c) ≡ later (later a b) c
later_assoc a b None = refl
later_assoc a b (Some last) = refl

later_none : (a : Option Bool) → later None a ≡ a
later_none None = refl
later_none (Some b) = refl

turn-append : (xs ys : List Word) → turn_in (xs ++ ys) ≡ later (turn_in xs) (turn_in ys)
turn-append [] ys = sym (later_none (turn_in ys))
turn-append (x ∷ xs) ys = ap (later (turn_of x)) (turn-append xs ys) ∙ later_assoc (turn_of x) (turn_in xs) (turn_in ys)

-- whether a note is open behind a turn
abbrev pub open_or : Bool → Option Bool → Bool
open_or began None = began
open_or began (Some b) = b

open_later : (began : Bool) (a b : Option Bool) → open_or (open_or began a) b ≡ open_or began (later a b)
open_later began a None = refl
open_later began a (Some b) = refl

open_word : (began : Bool) (word : Word) → is_open_after began word ≡ open_or began (turn_of word)
open_word began (Note Open text) = refl
open_word began (Note Line text) = refl
open_word began (Note Close text) = refl
open_word began (Note Slash text) = refl
open_word began (Note Block text) = refl
open_word began (Punct place) = refl
open_word began (Key place) = refl
open_word began (Regex place) = refl
open_word began (Gap text) = refl
open_word began (Num value) = refl
open_word began (Text text) = refl
open_word began (Tpl text) = refl
open_word began (Bind name) = refl
open_word began (Refer name now) = refl
open_word began (Host name now) = refl
open_word began (LocalBind name) = refl
open_word began (Local name) = refl
open_word began (Prop name) = refl
open_word began (Wasm name) = refl
open_word began (Outer name) = refl
open_word began (Splice text) = refl

pub open_turn : (began : Bool) (words : List Word) → is_open began words ≡ open_or began (turn_in words)
open_turn began [] = refl
open_turn began (word ∷ words) =
    open_turn (is_open_after began word) words
    ∙ ap (λ (b : Bool). open_or b (turn_in words)) (open_word began word)
    ∙ open_later began (turn_of word) (turn_in words)

behind : (began : Bool) (turn : Option Bool) (ys : List Word)
    → notes_stand (open_or began turn) ys ≡ stands_behind began turn (facts ys)
behind true None ys = refl
behind false None ys = refl
behind began (Some true) ys = refl
behind began (Some false) ys = refl

notes-append : (began : Bool) (xs ys : List Word)
    → notes_stand began (xs ++ ys) ≡ (notes_stand began xs && stands_behind began (turn_in xs) (facts ys))
notes-append began xs ys =
    notes_stand-append began xs ys
    ∙ ap (λ (b : Bool). notes_stand began xs && notes_stand b ys) (open_turn began xs)
    ∙ ap (λ (b : Bool). notes_stand began xs && b) (behind began (turn_in xs) ys)

-- ---- names of function declarations

trail-append : (xs ys : List Word) → trail_in (xs ++ ys) ≡ later (trail_in xs) (trail_in ys)
trail-append [] ys = sym (later_none (trail_in ys))
trail-append (x ∷ xs) ys =
    ap (later (trail_of x)) (trail-append xs ys) ∙ later_assoc (trail_of x) (trail_in xs) (trail_in ys)

-- what the words behind say is said
later_some : (first : Option Bool) (b : Bool) (names : List (List ℕ)) (others : List (List ℕ))
    → joined_lead (later (Some b) first) names others ≡ names
later_some None b names others = refl
later_some (Some c) b names others = refl

lead-append : (xs ys : List Word) → lead_in (xs ++ ys) ≡ joined_lead (trail_in xs) (lead_in xs) (lead_in ys)
lead-append [] ys = refl
lead-append (Gap text ∷ xs) ys =
    lead-append xs ys ∙ ap (λ (t : Option Bool). joined_lead t (lead_in xs) (lead_in ys))
    (sym (later_none (trail_in xs)))
lead-append (Bind name ∷ xs) ys = sym (later_some (trail_in xs) false (name ∷ []) (lead_in ys))
lead-append (Key place ∷ xs) ys = sym (later_some (trail_in xs) (place == key.FUNCTION) [] (lead_in ys))
lead-append (word ∷ xs) ys = sym (later_some (trail_in xs) false [] (lead_in ys))

-- words that are gaps alone declare nothing
no_lead : (xs : List Word) → trail_in xs ≡ None → (lead_in xs ≡ []) × (hoisted_in xs ≡ [])
no_lead [] h = (refl, refl)
no_lead (Gap text ∷ xs) h = no_lead xs (sym (later_none (trail_in xs)) ∙ h)
no_lead (word ∷ xs) h = absurd (said (trail_in xs) _ h)
  where
    said : (t : Option Bool) (b : Bool) → later (Some b) t ≡ None → ⊥
    said None b e = cc
    said (Some c) b e = cc

nothing_behind : (t : Option Bool) → names_behind t [] ≡ []
nothing_behind None = refl
nothing_behind (Some true) = refl
nothing_behind (Some false) = refl

hoisted-append : (xs ys : List Word)
    → hoisted_in (xs ++ ys) ≡ hoisted_in xs ++ (names_behind (trail_in xs) (lead_in ys) ++ hoisted_in ys)
hoisted-append [] ys = refl
hoisted-append (x ∷ xs) ys =
    ap (λ (ns : List (List ℕ)). names_behind (trail_of x) ns ++ hoisted_in (xs ++ ys)) (lead-append xs ys)
    ∙ ap (λ (ns : List (List ℕ)). names_behind (trail_of x) (joined_lead (trail_in xs) (lead_in xs) (lead_in ys))
    ++ ns) (hoisted-append xs ys)
    ∙ one (trail_in xs) refl
  where
    one : (t : Option Bool) → trail_in xs ≡ t
        → names_behind (trail_of x) (joined_lead t (lead_in xs) (lead_in ys))
        ++ (hoisted_in xs ++ (names_behind t (lead_in ys) ++ hoisted_in ys))
        ≡ (names_behind (trail_of x) (lead_in xs) ++ hoisted_in xs)
        ++ (names_behind (later (trail_of x) t) (lead_in ys) ++ hoisted_in ys)
    one None e =
        let none = no_lead xs e in
        rw (none.0, none.1) (ap (λ (ns : List (List ℕ)). (ns ++ [])
        ++ (names_behind (trail_of x) (lead_in ys) ++ hoisted_in ys)) (sym (nothing_behind (trail_of x))))
    one (Some b) e =
        sym (append_assoc (names_behind (trail_of x) (lead_in xs)) (hoisted_in xs)
        (names_behind (Some b) (lead_in ys) ++ hoisted_in ys))

-- ---- braces

no_names : (levels : Levels) → with_names [] levels ≡ levels
no_names (Last more count) = refl
no_names (Below more levels) = refl

names_twice : (name : List ℕ) (names : List (List ℕ)) (levels : Levels)
    → with_names (name ∷ []) (with_names names levels) ≡ with_names (name ∷ names) levels
names_twice name names (Last more count) = refl
names_twice name names (Below more levels) = refl

opening_names : (names : List (List ℕ)) (levels : Levels) → opening (with_names names levels) ≡ opening levels
opening_names names (Last more count) = refl
opening_names names (Below more levels) = refl

blank_names : (names : List (List ℕ)) (levels : Levels) → blank (with_names names levels) ≡ blank levels
blank_names names (Last more count) = refl
blank_names names (Below more levels) = refl

blank_twice : (levels : Levels) → blank (blank levels) ≡ blank levels
blank_twice (Last names count) = refl
blank_twice (Below names levels) = ap (Below []) (blank_twice levels)

blank_opening : (levels : Levels) → blank (opening levels) ≡ opening (blank levels)
blank_opening (Last names count) = refl
blank_opening (Below names levels) = refl

blank_opening_by : (count : ℕ) (levels : Levels) → blank (opening_by count levels) ≡ opening_by count (blank levels)
blank_opening_by zero levels = refl
blank_opening_by (suc count) levels =
    blank_opening (opening_by count levels) ∙ ap opening (blank_opening_by count levels)

joined_opening : (first second : Levels) → opening (joined_levels first second) ≡ joined_levels (opening first) second
joined_opening (Last names count) second =
    opening_names names (opening_by count second) ∙ sym (no_names (opening (opening_by count second)))
joined_opening (Below names levels) second = refl

joined_name : (name : List ℕ) (first second : Levels)
    → with_names (name ∷ []) (joined_levels first second) ≡ joined_levels (with_names (name ∷ []) first) second
joined_name name (Last names count) second = names_twice name names (opening_by count second)
joined_name name (Below names levels) second = refl

joined_blank : (first second : Levels) → blank (joined_levels first second) ≡ joined_levels (blank first) (blank second)
joined_blank (Last names count) second =
    blank_names names (opening_by count second)
    ∙ (blank_opening_by count second ∙ sym (no_names (opening_by count (blank second))))
joined_blank (Below names levels) second = ap (Below []) (joined_blank levels second)

blank_behind : (arrowed : Bool) (levels : Levels) → blank (levels_behind arrowed levels) ≡ blank levels
blank_behind true levels = blank_twice levels
blank_behind false levels = refl

place_joined : (first second : Levels) (arrowed arrow opens closes : Bool) →
    elim arrow [
      | true ↦ blank (joined_levels first (levels_behind arrowed second))
      | false ↦ elim opens [
        | true ↦ opening (joined_levels first (levels_behind arrowed second))
        | false ↦ elim closes [
          | true ↦ Below [] (joined_levels first (levels_behind arrowed second))
          | false ↦ joined_levels first (levels_behind arrowed second)
        ]
      ]
    ]
    ≡ joined_levels (elim arrow [
      | true ↦ blank first
      | false ↦ elim opens [
        | true ↦ opening first
        | false ↦ elim closes [ true ↦ Below [] first | false ↦ first ]
      ]
    ]) (levels_behind (arrow || arrowed) second)
place_joined first second arrowed true opens closes =
    joined_blank first (levels_behind arrowed second) ∙ ap (joined_levels (blank first)) (blank_behind arrowed second)
place_joined first second arrowed false true closes = joined_opening first (levels_behind arrowed second)
place_joined first second arrowed false false true = refl
place_joined first second arrowed false false false = refl

leveled_joined : (word : Word) (arrowed : Bool) (first second : Levels)
    → leveled word (joined_levels first (levels_behind arrowed second))
    ≡ joined_levels (leveled word first) (levels_behind (is_arrow word || arrowed) second)
leveled_joined (Refer name false) arrowed first second = joined_name name first (levels_behind arrowed second)
leveled_joined (Refer name true) arrowed first second = refl
leveled_joined (Punct place) arrowed first second =
    place_joined first second arrowed (place == punct.ARROW) (place == punct.OPEN_BRACE) (place == punct.CLOSE_BRACE)
leveled_joined word arrowed first second = refl

levels-append : (xs ys : List Word)
    → levels_in (xs ++ ys) ≡ joined_levels (levels_in xs) (levels_behind (list_any is_arrow xs) (levels_in ys))
levels-append [] ys = sym (no_names (levels_in ys))
levels-append (x ∷ xs) ys =
    ap (leveled x) (levels-append xs ys) ∙ leveled_joined x (list_any is_arrow xs) (levels_in xs) (levels_in ys)

-- ---- all facts

pub facts-append : (xs ys : List Word) → facts (xs ++ ys) ≡ joined (facts xs) (facts ys)
facts-append xs ys = rw (
  filter_map-append bound_name xs ys,
  filter_map-append used_name xs ys,
  filter_map-append used_now_name xs ys,
  filter_map-append hosted_name xs ys,
  filter_map-append hosted_now_name xs ys,
  filter_map-append local_bound_name xs ys,
  filter_map-append local_name xs ys,
  filter_map-append wasm_name xs ys,
  filter_map-append spliced_key xs ys,
  filter_map-append outer_name xs ys,
  filter_map-append prop_name xs ys,
  pairs-append opened_name xs ys,
  pairs-append gated_name xs ys,
  filter_map-append event_of xs ys,
  hoisted-append xs ys,
  lead-append xs ys,
  trail-append xs ys,
  levels-append xs ys,
  list_any-append is_arrow xs ys,
  list_all-append is_proper xs ys,
  all_pairs-append meets_well xs ys,
  list_any-append is_export_key xs ys,
  turn-append xs ys,
  notes-append false xs ys,
  notes-append true xs ys,
  ends-append xs ys,
) refl

-- the same, where the facts of both are known
pub joined_are : (xs ys : List Word) (f g : Facts) → facts xs ≡ f → facts ys ≡ g → facts (xs ++ ys) ≡ joined f g
joined_are xs ys f g h k = facts-append xs ys ∙ (ap (λ (e : Facts). joined e (facts ys)) h ∙ ap (joined f) k)
