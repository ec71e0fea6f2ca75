-- Words that are spaced: joined words, and items that stand alone.
use Rattle.std.proofs.Common.{◌≡◌, ℕ, List, ◌∷◌, [], ◌++◌, refl, ap, sym, ◌∙◌, Bool, true, false, true≢false}
use Rattle.std.proofs.lemmas.Bool.{and_parts}
use Rattle.std.proofs.lemmas.List.{append-nil}
use Rattle.std.proofs.lemmas.List.Folds.{list_all-append}
use Rattle.std.proofs.lemmas.Grind.{flat_map-append}
use Rattle.std.specs.Prelude.{Option, Some, None, ◌&&◌, not}
use Rattle.std.specs.List.{list_all}
use Rattle.glue_words.specs.declared.word.NoteKind.TheVariants.{Open, Line, Close, Slash, Block}
use Rattle.glue_words.specs.declared.word.Word.{Word}
use Rattle.glue_words.specs.declared.word.Word.TheVariants.{Punct, Key, Regex, Gap, Num, Text, Tpl, Note, Bind, Refer, Host, LocalBind, Local, Prop, Wasm, Outer, Splice}
use Rattle.glue_words.specs.declared.item.Item.{Item}
use Rattle.glue_words.specs.Words.{words_of, text_of}
use Rattle.glue_words.specs.Limits.{keeps_limits, is_gap, first_passes, last_passes}
use Rattle.glue_words.specs.Spacing.{is_ident_byte, is_export_access, meets, stands, first_word, front_word, each_next, begins_apart, is_open_after, is_open, note_stands, notes_stand}
use Rattle.glue_words.specs.Linking.{EachItem, AreSpaced, TakesExports, is_named_access, IsSpaced, IsExported}
use Rattle.glue_words.proofs.Belonging.{StandAlone, ends_in_gap}
use Rattle.glue_words.proofs.ByKind.{stands_by_kind, is_sound, is_sound_next, is_plain, all_sound_from_plain, gap_last, gap_all, each_from_kind, limits_from_sound}

and_true : (a b : Bool) → a ≡ true → b ≡ true → (a && b) ≡ true
and_true a b h k = ap (λ x. x && b) h ∙ k

-- ---- joined words

pub first_word-append : (xs ys : List Word) (next : Option Word) → first_word (xs ++ ys) next ≡ first_word xs (first_word ys next)
first_word-append [] ys next = refl
first_word-append (x ∷ xs) ys next = refl

and_assoc : (a b c : Bool) → (a && (b && c)) ≡ ((a && b) && c)
and_assoc true b c = refl
and_assoc false b c = refl

pub each_next-append : (test : Word → Option Word → Bool) (xs ys : List Word) (next : Option Word) → each_next test (xs ++ ys) next ≡ (each_next test xs (first_word ys next) && each_next test ys next)
each_next-append test [] ys next = refl
each_next-append test (x ∷ xs) ys next =
    ap (λ (w : Option Word). test x w && each_next test (xs ++ ys) next) (first_word-append xs ys next)
    ∙ ap (λ b. test x (first_word xs (first_word ys next)) && b) (each_next-append test xs ys next)
    ∙ and_assoc (test x (first_word xs (first_word ys next))) (each_next test xs (first_word ys next)) (each_next test ys next)

pub each_next_both : (test : Word → Option Word → Bool) (xs ys : List Word) (next : Option Word) → each_next test xs (first_word ys next) ≡ true → each_next test ys next ≡ true → each_next test (xs ++ ys) next ≡ true
each_next_both test xs ys next h k = each_next-append test xs ys next ∙ and_true _ _ h k

pub all_both : (test : Word → Bool) (xs ys : List Word) → list_all test xs ≡ true → list_all test ys ≡ true → list_all test (xs ++ ys) ≡ true
all_both test xs ys h k = list_all-append test xs ys ∙ and_true _ _ h k

pub is_open-append : (inside : Bool) (xs ys : List Word) → is_open inside (xs ++ ys) ≡ is_open (is_open inside xs) ys
is_open-append inside [] ys = refl
is_open-append inside (x ∷ xs) ys = is_open-append (is_open_after inside x) xs ys

pub notes_stand-append : (inside : Bool) (xs ys : List Word) → notes_stand inside (xs ++ ys) ≡ (notes_stand inside xs && notes_stand (is_open inside xs) ys)
notes_stand-append inside [] ys = refl
notes_stand-append inside (x ∷ xs) ys =
    ap (λ b. note_stands inside x && b) (notes_stand-append (is_open_after inside x) xs ys)
    ∙ and_assoc (note_stands inside x) (notes_stand (is_open_after inside x) xs) (notes_stand (is_open (is_open_after inside x) xs) ys)

-- ---- words without notes

abbrev pub is_no_note : Word → Bool
is_no_note (Note kind text) = false
is_no_note word = true

word_no_note : (inside : Bool) (word : Word) → is_no_note word ≡ true → (is_open_after inside word ≡ inside) × (note_stands inside word ≡ true)
word_no_note inside (Punct place) h = (refl, refl)
word_no_note inside (Key place) h = (refl, refl)
word_no_note inside (Regex place) h = (refl, refl)
word_no_note inside (Gap text) h = (refl, refl)
word_no_note inside (Num value) h = (refl, refl)
word_no_note inside (Text text) h = (refl, refl)
word_no_note inside (Tpl text) h = (refl, refl)
word_no_note inside (Note kind text) h = absurd (true≢false (sym h))
word_no_note inside (Bind name) h = (refl, refl)
word_no_note inside (Refer name now) h = (refl, refl)
word_no_note inside (Host name now) h = (refl, refl)
word_no_note inside (LocalBind name) h = (refl, refl)
word_no_note inside (Local name) h = (refl, refl)
word_no_note inside (Prop name) h = (refl, refl)
word_no_note inside (Wasm name) h = (refl, refl)
word_no_note inside (Outer name) h = (refl, refl)
word_no_note inside (Splice text) h = (refl, refl)

pub no_notes_open : (inside : Bool) (words : List Word) → list_all is_no_note words ≡ true → is_open inside words ≡ inside
no_notes_open inside [] h = refl
no_notes_open inside (word ∷ words) h =
    let parts = and_parts (is_no_note word) (list_all is_no_note words) h in
    ap (λ (b : Bool). is_open b words) (word_no_note inside word parts.0).0 ∙ no_notes_open inside words parts.1

pub no_notes_stand : (inside : Bool) (words : List Word) → list_all is_no_note words ≡ true → notes_stand inside words ≡ true
no_notes_stand inside [] h = refl
no_notes_stand inside (word ∷ words) h =
    let parts = and_parts (is_no_note word) (list_all is_no_note words) h in
    let here = word_no_note inside word parts.0 in
    ap (λ (b : Bool). b && notes_stand (is_open_after inside word) words) here.1
    ∙ ap (λ (b : Bool). notes_stand b words) here.0
    ∙ no_notes_stand inside words parts.1

-- notes that stand where none is open stand where one is
pub notes_stand_inside : (words : List Word) → notes_stand false words ≡ true → notes_stand true words ≡ true
notes_stand_inside [] h = refl
notes_stand_inside (Note Open text ∷ words) h = h
notes_stand_inside (Note Line text ∷ words) h = absurd (true≢false (sym h))
notes_stand_inside (Note Close text ∷ words) h = absurd (true≢false (sym h))
notes_stand_inside (Note Slash text ∷ words) h = notes_stand_inside words h
notes_stand_inside (Note Block text ∷ words) h = notes_stand_inside words h
notes_stand_inside (Punct place ∷ words) h = notes_stand_inside words h
notes_stand_inside (Key place ∷ words) h = notes_stand_inside words h
notes_stand_inside (Regex place ∷ words) h = notes_stand_inside words h
notes_stand_inside (Gap text ∷ words) h = notes_stand_inside words h
notes_stand_inside (Num value ∷ words) h = notes_stand_inside words h
notes_stand_inside (Text text ∷ words) h = notes_stand_inside words h
notes_stand_inside (Tpl text ∷ words) h = notes_stand_inside words h
notes_stand_inside (Bind name ∷ words) h = notes_stand_inside words h
notes_stand_inside (Refer name now ∷ words) h = notes_stand_inside words h
notes_stand_inside (Host name now ∷ words) h = notes_stand_inside words h
notes_stand_inside (LocalBind name ∷ words) h = notes_stand_inside words h
notes_stand_inside (Local name ∷ words) h = notes_stand_inside words h
notes_stand_inside (Prop name ∷ words) h = notes_stand_inside words h
notes_stand_inside (Wasm name ∷ words) h = notes_stand_inside words h
notes_stand_inside (Outer name ∷ words) h = notes_stand_inside words h
notes_stand_inside (Splice text ∷ words) h = notes_stand_inside words h

-- ---- words that are spaced by their kinds

pub spaced_by_kind : (inside : Bool) (words : List Word) (next : Option Word) → list_all is_sound words ≡ true → is_sound_next next ≡ true → each_next stands_by_kind words next ≡ true → begins_apart words ≡ true → notes_stand inside words ≡ true → AreSpaced inside words next
spaced_by_kind inside words next sound sound_next spaced apart notes = record {
  limits = limits_from_sound words sound;
  spaced = each_from_kind words next sound sound_next spaced;
  apart = apart;
  notes = notes;
}

-- ---- items that stand alone

-- what follows is no access of an export
abbrev pub next_apart : Option Word → Bool
next_apart None = true
next_apart (Some word) = not (is_export_access word)

not_false : (b : Bool) → not b ≡ true → b ≡ false
not_false true h = sym h
not_false false h = refl

and_false : (a b : Bool) → b ≡ false → (a && b) ≡ false
and_false true b h = h
and_false false b h = refl

gap_meets : (text : List ℕ) (next : Word) → is_gap text ≡ true → meets (Gap text) next ≡ false
gap_meets text next h = and_false (first_passes is_ident_byte (text_of next)) (last_passes is_ident_byte text) (gap_last text (gap_all text h))

gap_stands : (text : List ℕ) (next : Option Word) → is_gap text ≡ true → next_apart next ≡ true → stands (Gap text) next ≡ true
gap_stands text None h k = refl
gap_stands text (Some next) h k =
    and_true _ _ (and_true _ _ (and_true _ _ (ap not (gap_meets text next h)) refl) (ap (λ b. not (b && true)) (not_false (is_export_access next) k))) refl

last_stands : (word : Word) (next : Option Word) → ends_in_gap (word ∷ []) ≡ true → keeps_limits word ≡ true → next_apart next ≡ true → (stands word next ≡ true) × (is_named_access word next ≡ true)
last_stands (Gap text) next e h k = (gap_stands text next h k, refl)
last_stands (Punct place) next e h k = absurd (true≢false (sym e))
last_stands (Key place) next e h k = absurd (true≢false (sym e))
last_stands (Regex place) next e h k = absurd (true≢false (sym e))
last_stands (Num value) next e h k = absurd (true≢false (sym e))
last_stands (Text text) next e h k = absurd (true≢false (sym e))
last_stands (Tpl text) next e h k = absurd (true≢false (sym e))
last_stands (Note kind text) next e h k = absurd (true≢false (sym e))
last_stands (Bind name) next e h k = absurd (true≢false (sym e))
last_stands (Refer name now) next e h k = absurd (true≢false (sym e))
last_stands (Host name now) next e h k = absurd (true≢false (sym e))
last_stands (LocalBind name) next e h k = absurd (true≢false (sym e))
last_stands (Local name) next e h k = absurd (true≢false (sym e))
last_stands (Prop name) next e h k = absurd (true≢false (sym e))
last_stands (Wasm name) next e h k = absurd (true≢false (sym e))
last_stands (Outer name) next e h k = absurd (true≢false (sym e))
last_stands (Splice text) next e h k = absurd (true≢false (sym e))

-- words that end with a gap may stand before anything but the access of an export
pub stands_before_any : (words : List Word) (next : Option Word) → ends_in_gap words ≡ true → list_all keeps_limits words ≡ true → next_apart next ≡ true → each_next stands words None ≡ true → each_next stands words next ≡ true
stands_before_any [] next e h k s = refl
stands_before_any (word ∷ []) next e h k s =
    and_true (stands word next) true (last_stands word next e (and_parts (keeps_limits word) true h).0 k).0 refl
stands_before_any (word ∷ other ∷ words) next e h k s =
    let limits = and_parts (keeps_limits word) (list_all keeps_limits (other ∷ words)) h in
    let parts = and_parts (stands word (Some other)) (each_next stands (other ∷ words) None) s in
    and_true (stands word (Some other)) _ parts.0 (stands_before_any (other ∷ words) next e limits.1 k parts.1)

pub named_before_any : (words : List Word) (next : Option Word) → ends_in_gap words ≡ true → list_all keeps_limits words ≡ true → next_apart next ≡ true → each_next is_named_access words None ≡ true → each_next is_named_access words next ≡ true
named_before_any [] next e h k s = refl
named_before_any (word ∷ []) next e h k s =
    and_true (is_named_access word next) true (last_stands word next e (and_parts (keeps_limits word) true h).0 k).1 refl
named_before_any (word ∷ other ∷ words) next e h k s =
    let limits = and_parts (keeps_limits word) (list_all keeps_limits (other ∷ words)) h in
    let parts = and_parts (is_named_access word (Some other)) (each_next is_named_access (other ∷ words) None) s in
    and_true (is_named_access word (Some other)) _ parts.0 (named_before_any (other ∷ words) next e limits.1 k parts.1)

first_apart : (words : List Word) (next : Option Word) → begins_apart words ≡ true → next_apart next ≡ true → next_apart (first_word words next) ≡ true
first_apart [] next h k = k
first_apart (word ∷ words) next h k = h

front_apart : (before items : List Item) → EachItem (λ b i a. StandAlone i.words) before items → next_apart (front_word items) ≡ true
front_apart before [] h = refl
front_apart before (item ∷ items) h =
    let here : StandAlone item.words = h.0 in
    first_apart item.words (front_word items) here.spaced.apart (front_apart (before ++ item ∷ []) items h.1)

-- no note is open after one more item that stands alone
closed_after : (before : List Item) (item : Item) → is_open false (words_of before) ≡ false → StandAlone item.words → is_open false (words_of (before ++ item ∷ [])) ≡ false
closed_after before item h alone =
    ap (is_open false) (flat_map-append (λ (i : Item). i.words) before (item ∷ []))
    ∙ is_open-append false (words_of before) (words_of (item ∷ []))
    ∙ ap (λ (b : Bool). is_open b (words_of (item ∷ []))) h
    ∙ ap (is_open false) (append-nil item.words)
    ∙ alone.closed

alone_here : (words : List Word) (next : Option Word) (inside : Bool) → inside ≡ false → next_apart next ≡ true → StandAlone words → AreSpaced inside words next
alone_here words next inside e k alone = record {
  limits = alone.spaced.limits;
  spaced = stands_before_any words next alone.ends alone.spaced.limits k alone.spaced.spaced;
  apart = alone.spaced.apart;
  notes = ap (λ (b : Bool). notes_stand b words) e ∙ alone.spaced.notes;
}

-- items that stand alone are spaced in any order
pub alone_spaced : (before items : List Item) → is_open false (words_of before) ≡ false → EachItem (λ b i a. StandAlone i.words) before items → EachItem IsSpaced before items
alone_spaced before [] closed h = tt
alone_spaced before (item ∷ items) closed h = (
  alone_here item.words (front_word items) (is_open false (words_of before)) closed (front_apart (before ++ item ∷ []) items h.1) h.0,
  alone_spaced (before ++ item ∷ []) items (closed_after before item closed h.0) h.1,
)

-- and take their exports in any order
pub alone_exported : (exports : List (List ℕ)) (before items : List Item) → EachItem (λ b i a. StandAlone i.words) before items → EachItem (λ b i a. TakesExports exports i.words None) before items → EachItem (IsExported exports) before items
alone_exported exports before [] h k = tt
alone_exported exports before (item ∷ items) h k =
    let alone : StandAlone item.words = h.0 in
    let takes : TakesExports exports item.words None = k.0 in (
      record {
        known = takes.known;
        named = named_before_any item.words (front_word items) alone.ends alone.spaced.limits (front_apart (before ++ item ∷ []) items h.1) takes.named;
      },
      alone_exported exports (before ++ item ∷ []) items h.1 k.1,
    )

-- ---- to show that an item stands alone

pub ends_in_gap-append : (xs ys : List Word) → ends_in_gap ys ≡ true → ends_in_gap (xs ++ ys) ≡ true
ends_in_gap-append [] ys h = h
ends_in_gap-append (x ∷ []) [] h = absurd (true≢false (sym h))
ends_in_gap-append (x ∷ []) (y ∷ ys) h = h
ends_in_gap-append (x ∷ y ∷ xs) ys h = ends_in_gap-append (y ∷ xs) ys h

-- the first word of joined items
pub front_word-append : (xs ys : List Item) → front_word (xs ++ ys) ≡ first_word (words_of xs) (front_word ys)
front_word-append [] ys = refl
front_word-append (x ∷ xs) ys =
    ap (first_word x.words) (front_word-append xs ys) ∙ sym (first_word-append x.words (words_of xs) (front_word ys))

pub alone_by_kind : (words : List Word) → list_all is_sound words ≡ true → each_next stands_by_kind words None ≡ true → begins_apart words ≡ true → notes_stand false words ≡ true → ends_in_gap words ≡ true → is_open false words ≡ false → StandAlone words
alone_by_kind words sound stands apart notes ends closed =
    record { spaced = spaced_by_kind false words None sound refl stands apart notes; ends = ends; closed = closed }

-- a test of known words, whose names are ASCII
abbrev pub stands_alone : List Word → Bool
stands_alone words =
    (list_all is_plain words && each_next stands_by_kind words None) && ((begins_apart words && notes_stand false words) && (ends_in_gap words && not (is_open false words)))

-- words that pass the test stand alone: `alone_by_test words refl` below `unfolding spacing`
pub alone_by_test : (words : List Word) → stands_alone words ≡ true → StandAlone words
alone_by_test words h =
    let halves = and_parts (list_all is_plain words && each_next stands_by_kind words None) ((begins_apart words && notes_stand false words) && (ends_in_gap words && not (is_open false words))) h in
    let kinds = and_parts (list_all is_plain words) (each_next stands_by_kind words None) halves.0 in
    let others = and_parts (begins_apart words && notes_stand false words) (ends_in_gap words && not (is_open false words)) halves.1 in
    let front = and_parts (begins_apart words) (notes_stand false words) others.0 in
    let back = and_parts (ends_in_gap words) (not (is_open false words)) others.1 in
    alone_by_kind words (all_sound_from_plain words kinds.0) kinds.1 front.0 front.1 back.0 (not_false (is_open false words) back.1)
