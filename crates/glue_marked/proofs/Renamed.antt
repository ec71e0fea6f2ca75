-- Facts of words whose names are renamed: renamed facts. A text with stand-ins for names fits where the names that
-- stand for them do.
use Rattle.std.proofs.Common.{◌≡◌, ℕ, List, ◌∷◌, [], ◌++◌, refl, ap, sym, ◌∙◌, Bool, true, false, map}
use Rattle.std.specs.Prelude.{Option, Some, None, ◌&&◌, ◌==◌, if◌then◌else◌}
use Rattle.std.specs.List.{list_all, list_any, filter_map, cons_option}
use Rattle.glue_words.specs.declared.word.Word.{Word}
use Rattle.glue_words.specs.declared.word.Word.TheVariants.{Punct, Key, Gap, Num, Bind, Refer, Host, LocalBind, Local}
use Rattle.glue_words.specs.declared.word.Word.TheVariants.{Prop, Wasm, Outer, Splice}
use Rattle.glue_words.specs.Names.{bound_name, used_name, hosted_name, local_bound_name, local_name, wasm_name}
use Rattle.glue_words.specs.Names.{spliced_key}
use Rattle.glue_words.specs.Spacing.{is_big_number, is_export_access, is_line_note, is_line_gap, is_open_after}
use Rattle.glue_words.specs.Spacing.{note_stands, notes_stand}
use Rattle.glue_words.specs.Linking.{is_access_place}
use Rattle.glue_marked.specs.StandIns.{renamed_word, renamed}
use Rattle.glue_words.specs.declared.punct.TheConstants as punct
use Rattle.glue_words.specs.Facts.{Facts, facts, Ends, may_begin, may_end, opened_name, gated_name, used_now_name}
use Rattle.glue_words.specs.Facts.{hosted_now_name, prop_name, may_misread, is_use, meets_well, is_proper}
use Rattle.glue_words.specs.Names.{outer_name}
use Rattle.glue_words.specs.Names.{is_export_key}
use Rattle.glue_words.specs.Facts.{pairs_in, all_pairs, last_of, ends_of, turn_of, turn_in, Event}
use Rattle.glue_words.specs.Facts.{Declares, UsesNow, event_of, Levels, Last, Below, with_names, opening, blank}
use Rattle.glue_words.specs.Facts.{is_arrow, leveled, levels_in, trail_of, trail_in, lead_in, names_behind}
use Rattle.glue_words.specs.Facts.{hoisted_in}

-- ---- renaming

abbrev pub renamed_ends : (rename respell : List ℕ → List ℕ) → Ends → Ends
renamed_ends rename respell None = None
renamed_ends rename respell (Some ends) = Some (renamed_word rename respell ends.0, renamed_word rename respell ends.1)

abbrev pub renamed_event : (rename : List ℕ → List ℕ) → Event → Event
renamed_event rename (Declares name) = Declares (rename name)
renamed_event rename (UsesNow name) = UsesNow (rename name)

abbrev pub renamed_levels : (rename : List ℕ → List ℕ) → Levels → Levels
renamed_levels rename (Last names count) = Last (map rename names) count
renamed_levels rename (Below names levels) = Below (map rename names) (renamed_levels rename levels)

abbrev pub renamed_facts : (rename respell : List ℕ → List ℕ) → Facts → Facts
renamed_facts rename respell f = record {
  binds = map rename f.binds;
  uses = map rename f.uses;
  uses_now = map rename f.uses_now;
  hosts = map rename f.hosts;
  hosts_now = map rename f.hosts_now;
  local_binds = map rename f.local_binds;
  locals = map rename f.locals;
  takes = map respell f.takes;
  keys = f.keys;
  outers = map respell f.outers;
  props = map rename f.props;
  opened = map rename f.opened;
  gated = map rename f.gated;
  order = map (renamed_event rename) f.order;
  hoisted = map rename f.hoisted;
  lead = map rename f.lead;
  trail = f.trail;
  levels = renamed_levels rename f.levels;
  arrowed = f.arrowed;
  proper = f.proper;
  spaced = f.spaced;
  exported = f.exported;
  turn = f.turn;
  outside = f.outside;
  inside = f.inside;
  ends = renamed_ends rename respell f.ends;
}

module _ (rename respell : List ℕ → List ℕ) where
  abbrev re : Word → Word
  re = renamed_word rename respell

  -- ---- names

  abbrev option_renamed : (List ℕ → List ℕ) → Option (List ℕ) → Option (List ℕ)
  option_renamed change None = None
  option_renamed change (Some name) = Some (change name)

  names_renamed : (change : List ℕ → List ℕ) (name : Word → Option (List ℕ))
      → ((word : Word) → name (re word) ≡ option_renamed change (name word)) → (words : List Word)
      → filter_map name (renamed rename respell words) ≡ map change (filter_map name words)
  names_renamed change name same [] = refl
  names_renamed change name same (word ∷ words) =
      one (name word) (name (re word)) (same word) (names_renamed change name same words)
    where
      one : (a b : Option (List ℕ)) → b ≡ option_renamed change a
          → filter_map name (renamed rename respell words) ≡ map change (filter_map name words)
          → cons_option b (filter_map name (renamed rename respell words))
          ≡ map change (cons_option a (filter_map name words))
      one None b e rest = rw e rest
      one (Some x) b e rest = rw e (ap (λ (ns : List (List ℕ)). change x ∷ ns) rest)

  bound : (word : Word) → bound_name (re word) ≡ option_renamed rename (bound_name word)
  bound (Bind name) = refl
  bound word = refl

  used : (word : Word) → used_name (re word) ≡ option_renamed rename (used_name word)
  used (Refer name now) = refl
  used word = refl

  used_now : (word : Word) → used_now_name (re word) ≡ option_renamed rename (used_now_name word)
  used_now (Refer name true) = refl
  used_now (Refer name false) = refl
  used_now word = refl

  hosted : (word : Word) → hosted_name (re word) ≡ option_renamed rename (hosted_name word)
  hosted (Host name now) = refl
  hosted word = refl

  hosted_now : (word : Word) → hosted_now_name (re word) ≡ option_renamed rename (hosted_now_name word)
  hosted_now (Host name true) = refl
  hosted_now (Host name false) = refl
  hosted_now word = refl

  local_bound : (word : Word) → local_bound_name (re word) ≡ option_renamed rename (local_bound_name word)
  local_bound (LocalBind name) = refl
  local_bound word = refl

  local : (word : Word) → local_name (re word) ≡ option_renamed rename (local_name word)
  local (Local name) = refl
  local word = refl

  taken : (word : Word) → wasm_name (re word) ≡ option_renamed respell (wasm_name word)
  taken (Wasm name) = refl
  taken word = refl

  outward : (word : Word) → outer_name (re word) ≡ option_renamed respell (outer_name word)
  outward (Outer name) = refl
  outward word = refl

  property : (word : Word) → prop_name (re word) ≡ option_renamed rename (prop_name word)
  property (Prop name) = refl
  property word = refl

  keys : (words : List Word) → filter_map spliced_key (renamed rename respell words) ≡ filter_map spliced_key words
  keys [] = refl
  keys (Splice text ∷ words) = ap (λ (ns : List (List ℕ)). text ∷ ns) (keys words)
  keys (word ∷ words) = keys words

  -- ---- neighbours

  map-append : (xs ys : List (List ℕ)) → map rename (xs ++ ys) ≡ map rename xs ++ map rename ys
  map-append [] ys = refl
  map-append (x ∷ xs) ys = ap (λ (ns : List (List ℕ)). rename x ∷ ns) (map-append xs ys)

  if_renamed : (b : Bool) (name : List ℕ)
      → (if b then rename name ∷ [] else []) ≡ map rename (if b then name ∷ [] else [])
  if_renamed true name = refl
  if_renamed false name = refl

  opened : (word next : Word) → opened_name (re word) (re next) ≡ map rename (opened_name word next)
  opened (Refer name now) (Punct place) = if_renamed (is_access_place place) name
  opened (Refer name now) next = refl
  opened word next = refl

  gated : (word next : Word) → gated_name (re word) (re next) ≡ map rename (gated_name word next)
  gated (Refer name now) (Wasm export) = refl
  gated (Refer name now) next = refl
  gated word next = refl

  pairs_renamed : (give : Word → Word → List (List ℕ))
      → ((word next : Word) → give (re word) (re next) ≡ map rename (give word next)) → (words : List Word)
      → pairs_in give (renamed rename respell words) ≡ map rename (pairs_in give words)
  pairs_renamed give same [] = refl
  pairs_renamed give same (word ∷ []) = refl
  pairs_renamed give same (word ∷ next ∷ words) =
      ap (λ (ns : List (List ℕ)). ns ++ pairs_in give (renamed rename respell (next ∷ words))) (same word next)
      ∙ ap (λ (ns : List (List ℕ)). map rename (give word next) ++ ns) (pairs_renamed give same (next ∷ words))
      ∙ sym (map-append (give word next) (pairs_in give (next ∷ words)))

  begin : (word : Word) → may_begin (re word) ≡ may_begin word
  begin (Bind name) = refl
  begin word = refl

  end : (word : Word) → may_end (re word) ≡ may_end word
  end (Bind name) = refl
  end word = refl

  big : (word next : Word) → is_big_number (re word) (re next) ≡ is_big_number word next
  big (Num value) (Key place) = refl
  big (Num value) next = refl
  big word next = refl

  misread : (word next : Word) → may_misread (re word) (re next) ≡ may_misread word next
  misread (Punct place) (Punct other) = refl
  misread (Punct place) next = refl
  misread (Num value) (Punct place) = refl
  misread (Num value) next = refl
  misread word next = refl

  pub access : (word : Word) → is_export_access (re word) ≡ is_export_access word
  access (Bind name) = refl
  access word = refl

  in_use : (word : Word) → is_use (re word) ≡ is_use word
  in_use (Bind name) = refl
  in_use word = refl

  line_note : (word : Word) → is_line_note (re word) ≡ is_line_note word
  line_note (Bind name) = refl
  line_note word = refl

  line_gap : (word : Word) → is_line_gap (re word) ≡ is_line_gap word
  line_gap (Bind name) = refl
  line_gap word = refl

  meets : (word next : Word) → meets_well (re word) (re next) ≡ meets_well word next
  meets word next =
      rw (
        big word next,
        begin next,
        end word,
        misread word next,
        access next,
        in_use word,
        line_note word,
        line_gap next,
      ) refl

  all_pairs_renamed : (words : List Word)
      → all_pairs meets_well (renamed rename respell words) ≡ all_pairs meets_well words
  all_pairs_renamed [] = refl
  all_pairs_renamed (word ∷ []) = refl
  all_pairs_renamed (word ∷ next ∷ words) =
      ap (λ (b : Bool). b && all_pairs meets_well (renamed rename respell (next ∷ words))) (meets word next)
      ∙ ap (λ (b : Bool). meets_well word next && b) (all_pairs_renamed (next ∷ words))

  last_renamed : (word : Word) (words : List Word)
      → last_of (re word) (renamed rename respell words) ≡ re (last_of word words)
  last_renamed word [] = refl
  last_renamed word (next ∷ words) = last_renamed next words

  ends_renamed : (words : List Word)
      → ends_of (renamed rename respell words) ≡ renamed_ends rename respell (ends_of words)
  ends_renamed [] = refl
  ends_renamed (word ∷ words) = ap (λ (l : Word). Some (re word, l)) (last_renamed word words)

  -- ---- kinds and notes

  proper : (word : Word) → is_proper (re word) ≡ is_proper word
  proper (Bind name) = refl
  proper word = refl

  export_key : (word : Word) → is_export_key (re word) ≡ is_export_key word
  export_key (Bind name) = refl
  export_key word = refl

  turn : (word : Word) → turn_of (re word) ≡ turn_of word
  turn (Bind name) = refl
  turn word = refl

  all_proper : (words : List Word) → list_all is_proper (renamed rename respell words) ≡ list_all is_proper words
  all_proper [] = refl
  all_proper (word ∷ words) = rw (proper word, all_proper words) refl

  any_export : (words : List Word)
      → list_any is_export_key (renamed rename respell words) ≡ list_any is_export_key words
  any_export [] = refl
  any_export (word ∷ words) = rw (export_key word, any_export words) refl

  turns : (words : List Word) → turn_in (renamed rename respell words) ≡ turn_in words
  turns [] = refl
  turns (word ∷ words) = rw (turn word, turns words) refl

  note_after : (began : Bool) (word : Word) → is_open_after began (re word) ≡ is_open_after began word
  note_after began (Bind name) = refl
  note_after began word = refl

  note_here : (began : Bool) (word : Word) → note_stands began (re word) ≡ note_stands began word
  note_here began (Bind name) = refl
  note_here began word = refl

  notes : (began : Bool) (words : List Word)
      → notes_stand began (renamed rename respell words) ≡ notes_stand began words
  notes began [] = refl
  notes began (word ∷ words) =
      rw (note_here began word, note_after began word, notes (is_open_after began word) words) refl

  -- ---- loading order

  order : (words : List Word)
      → filter_map event_of (renamed rename respell words) ≡ map (renamed_event rename) (filter_map event_of words)
  order [] = refl
  order (Bind name ∷ words) = ap (λ (es : List Event). Declares (rename name) ∷ es) (order words)
  order (Refer name true ∷ words) = ap (λ (es : List Event). UsesNow (rename name) ∷ es) (order words)
  order (Refer name false ∷ words) = order words
  order (word ∷ words) = order words

  trail : (word : Word) → trail_of (re word) ≡ trail_of word
  trail (Bind name) = refl
  trail word = refl

  trails : (words : List Word) → trail_in (renamed rename respell words) ≡ trail_in words
  trails [] = refl
  trails (word ∷ words) = rw (trail word, trails words) refl

  lead : (words : List Word) → lead_in (renamed rename respell words) ≡ map rename (lead_in words)
  lead [] = refl
  lead (Gap text ∷ words) = lead words
  lead (Bind name ∷ words) = refl
  lead (word ∷ words) = refl

  behind_renamed : (t : Option Bool) (names : List (List ℕ))
      → names_behind t (map rename names) ≡ map rename (names_behind t names)
  behind_renamed None names = refl
  behind_renamed (Some true) names = refl
  behind_renamed (Some false) names = refl

  hoisted : (words : List Word) → hoisted_in (renamed rename respell words) ≡ map rename (hoisted_in words)
  hoisted [] = refl
  hoisted (word ∷ words) =
      ap (λ (t : Option Bool). names_behind t (lead_in (renamed rename respell words))
      ++ hoisted_in (renamed rename respell words)) (trail word)
      ∙ (ap (λ (ns : List (List ℕ)). names_behind (trail_of word) ns
      ++ hoisted_in (renamed rename respell words)) (lead words)
      ∙ (ap (λ (ns : List (List ℕ)). ns
      ++ hoisted_in (renamed rename respell words)) (behind_renamed (trail_of word) (lead_in words))
      ∙ (ap (λ (ns : List (List ℕ)). map rename (names_behind (trail_of word) (lead_in words)) ++ ns) (hoisted words)
      ∙ sym (map-append (names_behind (trail_of word) (lead_in words)) (hoisted_in words)))))

  arrow : (word : Word) → is_arrow (re word) ≡ is_arrow word
  arrow (Bind name) = refl
  arrow word = refl

  arrows : (words : List Word) → list_any is_arrow (renamed rename respell words) ≡ list_any is_arrow words
  arrows [] = refl
  arrows (word ∷ words) = rw (arrow word, arrows words) refl

  opening_renamed : (levels : Levels) → opening (renamed_levels rename levels) ≡ renamed_levels rename (opening levels)
  opening_renamed (Last names count) = refl
  opening_renamed (Below names levels) = refl

  blank_renamed : (levels : Levels) → blank (renamed_levels rename levels) ≡ renamed_levels rename (blank levels)
  blank_renamed (Last names count) = refl
  blank_renamed (Below names levels) = ap (Below []) (blank_renamed levels)

  name_renamed : (name : List ℕ) (levels : Levels)
      → with_names (rename name ∷ []) (renamed_levels rename levels)
      ≡ renamed_levels rename (with_names (name ∷ []) levels)
  name_renamed name (Last names count) = refl
  name_renamed name (Below names levels) = refl

  place_renamed : (levels : Levels) (arrow opens closes : Bool) →
      elim arrow [
        | true ↦ blank (renamed_levels rename levels)
        | false ↦ elim opens [
          | true ↦ opening (renamed_levels rename levels)
          | false ↦ elim closes [
            | true ↦ Below [] (renamed_levels rename levels)
            | false ↦ renamed_levels rename levels
          ]
        ]
      ]
      ≡ renamed_levels rename (elim arrow [
        | true ↦ blank levels
        | false ↦ elim opens [
          | true ↦ opening levels
          | false ↦ elim closes [ true ↦ Below [] levels | false ↦ levels ]
        ]
      ])
  place_renamed levels true opens closes = blank_renamed levels
  place_renamed levels false true closes = opening_renamed levels
  place_renamed levels false false true = refl
  place_renamed levels false false false = refl

  leveled_renamed : (word : Word) (levels : Levels)
      → leveled (re word) (renamed_levels rename levels) ≡ renamed_levels rename (leveled word levels)
  leveled_renamed (Refer name false) levels = name_renamed name levels
  leveled_renamed (Refer name true) levels = refl
  leveled_renamed (Punct place) levels =
      place_renamed levels (place == punct.ARROW) (place == punct.OPEN_BRACE) (place == punct.CLOSE_BRACE)
  leveled_renamed word levels = refl

  levels_renamed : (words : List Word)
      → levels_in (renamed rename respell words) ≡ renamed_levels rename (levels_in words)
  levels_renamed [] = refl
  levels_renamed (word ∷ words) = ap (leveled (re word)) (levels_renamed words) ∙ leveled_renamed word (levels_in words)

  -- ---- facts

  pub facts-renamed : (words : List Word)
      → facts (renamed rename respell words) ≡ renamed_facts rename respell (facts words)
  facts-renamed words = rw (
    names_renamed rename bound_name bound words,
    names_renamed rename used_name used words,
    names_renamed rename used_now_name used_now words,
    names_renamed rename hosted_name hosted words,
    names_renamed rename hosted_now_name hosted_now words,
    names_renamed rename local_bound_name local_bound words,
    names_renamed rename local_name local words,
    names_renamed respell wasm_name taken words,
    names_renamed respell outer_name outward words,
    names_renamed rename prop_name property words,
    keys words,
    pairs_renamed opened_name opened words,
    pairs_renamed gated_name gated words,
    order words,
    hoisted words,
    lead words,
    trails words,
    levels_renamed words,
    arrows words,
    all_proper words,
    all_pairs_renamed words,
    any_export words,
    turns words,
    notes false words,
    notes true words,
    ends_renamed words,
  ) refl
