-- Facts of words: what they hold and how they stand. What is asked of a name is a list of names here, and what is
-- asked of kinds alone is a truth, so that facts compute whatever the names are, and facts of joined words are put
-- together from those of the parts.
use Rattle.std.specs.Prelude.{ℕ, ℤ, zero, suc, ◌+◌, pos, negsuc, Bool, true, false, not, ◌&&◌, ◌||◌, ◌==◌, nat_lt}
use Rattle.std.specs.Prelude.{List, [], ◌∷◌, ◌++◌, length, Option, Some, None, if◌then◌else◌}
use Rattle.std.specs.List.{list_all, list_any, filter_map}
use Rattle.glue_words.specs.declared.word.NoteKind.{NoteKind}
use Rattle.glue_words.specs.declared.word.NoteKind.TheVariants.{Open, Line, Close, Slash, Block}
use Rattle.glue_words.specs.declared.word.Word.{Word}
use Rattle.glue_words.specs.declared.word.Word.TheVariants.{Punct, Key, Regex, Gap, Num, Text, Tpl, Note, Bind, Refer}
use Rattle.glue_words.specs.declared.word.Word.TheVariants.{Host, LocalBind, Local, Prop, Wasm, Outer, Splice}
use Rattle.glue_words.specs.declared.punct.TheConstants as punct
use Rattle.glue_words.specs.declared.key.TheConstants as key
use Rattle.glue_words.specs.Tables.{punct_table, key_table, regex_table}
use Rattle.glue_words.specs.Limits.{is_gap, is_template}
use Rattle.glue_words.specs.Names.{bound_in, used_in, hosted_in, local_bound_in, local_in, wasm_in, spliced_in}
use Rattle.glue_words.specs.Names.{outer_name, is_export_key}
use Rattle.glue_words.specs.LateNames.{closing}
use Rattle.glue_words.specs.Spacing.{joins, is_big_number, is_export_access, is_line_note, is_line_gap, notes_stand}
use Rattle.glue_words.specs.Linking.{is_access_place}

-- ---- names

-- the name of the module's scope that a word uses when its item is evaluated
abbrev pub used_now_name : Word → Option (List ℕ)
used_now_name (Refer name true) = Some name
used_now_name word = None

-- the host's name that a word uses when its item is evaluated
abbrev pub hosted_now_name : Word → Option (List ℕ)
hosted_now_name (Host name true) = Some name
hosted_now_name word = None

-- the name of a property
abbrev pub prop_name : Word → Option (List ℕ)
prop_name (Prop name) = Some name
prop_name word = None

-- a name of the module's scope before `.`, `[` or `?.`
abbrev pub opened_name : Word → Word → List (List ℕ)
opened_name (Refer name now) (Punct place) = if is_access_place place then name ∷ [] else []
opened_name word next = []

-- a name of the module's scope before the access of an export
abbrev pub gated_name : Word → Word → List (List ℕ)
gated_name (Refer name now) (Wasm export) = name ∷ []
gated_name word next = []

-- ---- kinds

-- a word of the kind may begin with an identifier character
abbrev pub may_begin : Word → Bool
may_begin (Punct place) = false
may_begin (Key place) = true
may_begin (Regex place) = false
may_begin (Gap text) = false
may_begin (Num value) = true
may_begin (Text text) = false
may_begin (Tpl text) = false
may_begin (Note kind text) = false
may_begin (Bind name) = true
may_begin (Refer name now) = true
may_begin (Host name now) = true
may_begin (LocalBind name) = true
may_begin (Local name) = true
may_begin (Prop name) = true
may_begin (Wasm name) = false
may_begin (Outer name) = true
may_begin (Splice text) = false

-- a note of the kind may end with one
abbrev pub note_may_end : NoteKind → Bool
note_may_end Open = false
note_may_end Line = true
note_may_end Close = false
note_may_end Slash = true
note_may_end Block = false

-- a word of the kind may end with one
abbrev pub may_end : Word → Bool
may_end (Punct place) = false
may_end (Key place) = true
may_end (Regex place) = false
may_end (Gap text) = false
may_end (Num value) = true
may_end (Text text) = false
may_end (Tpl text) = false
may_end (Note kind text) = note_may_end kind
may_end (Bind name) = true
may_end (Refer name now) = true
may_end (Host name now) = true
may_end (LocalBind name) = true
may_end (Local name) = true
may_end (Prop name) = true
may_end (Wasm name) = true
may_end (Outer name) = true
may_end (Splice text) = false

-- the kinds let two words meet with identifier characters
abbrev pub may_meet : Word → Word → Bool
may_meet word next = not (is_big_number word next) && (may_begin next && may_end word)

abbrev pub is_negative : ℤ → Bool
is_negative (pos n) = false
is_negative (negsuc n) = true

-- two words would be read otherwise
abbrev pub may_misread : Word → Word → Bool
may_misread (Punct place) (Punct next) = joins place next
may_misread (Punct place) (Num value) = (place == punct.MINUS || (place == punct.DECREMENT)) && is_negative value
may_misread (Num value) (Punct place) = place == punct.DOT || (place == punct.SPREAD)
may_misread word next = false

abbrev pub is_use : Word → Bool
is_use (Refer name now) = true
is_use word = false

-- the kinds let a word stand before another
abbrev pub meets_well : Word → Word → Bool
meets_well word next =
    ((not (may_meet word next) && not (may_misread word next)) && (not (is_export_access next) || is_use word))
    && (not (is_line_note word) || is_line_gap next)

-- a word without a name is as its kind says
abbrev pub is_proper : Word → Bool
is_proper (Punct place) = nat_lt place (length punct_table)
is_proper (Key place) = nat_lt place (length key_table)
is_proper (Regex place) = nat_lt place (length regex_table)
is_proper (Gap text) = is_gap text
is_proper (Tpl text) = is_template text
is_proper word = true

-- ---- neighbours

-- the names that each two neighbours give
abbrev pub pairs_in : (Word → Word → List (List ℕ)) → List Word → List (List ℕ)
pairs_in give [] = []
pairs_in give (word ∷ []) = []
pairs_in give (word ∷ next ∷ words) = give word next ++ pairs_in give (next ∷ words)

-- each two neighbours pass a test
abbrev pub all_pairs : (Word → Word → Bool) → List Word → Bool
all_pairs test [] = true
all_pairs test (word ∷ []) = true
all_pairs test (word ∷ next ∷ words) = test word next && all_pairs test (next ∷ words)

abbrev pub last_of : Word → List Word → Word
last_of word [] = word
last_of word (next ∷ words) = last_of next words

-- the first and the last word
abbrev pub Ends : Type 0
Ends = Option (Word × Word)

abbrev pub ends_of : List Word → Ends
ends_of [] = None
ends_of (word ∷ words) = Some (word, last_of word words)

-- ---- the last word that says something

-- what the words behind say, and what those before say where they say nothing
abbrev pub later : Option Bool → Option Bool → Option Bool
later first None = first
later first (Some b) = Some b

-- what a word does to a note of several lines: it opens one, closes one, or neither
abbrev pub turn_of : Word → Option Bool
turn_of (Note Open text) = Some true
turn_of (Note Close text) = Some false
turn_of word = None

abbrev pub turn_in : List Word → Option Bool
turn_in [] = None
turn_in (word ∷ words) = later (turn_of word) (turn_in words)

-- ---- names that function declarations bind

-- whether a word is the keyword `function`; a gap says nothing
abbrev pub trail_of : Word → Option Bool
trail_of (Key place) = Some (place == key.FUNCTION)
trail_of (Gap text) = None
trail_of word = Some false

-- whether the last word that is no gap is the keyword `function`
abbrev pub trail_in : List Word → Option Bool
trail_in [] = None
trail_in (word ∷ words) = later (trail_of word) (trail_in words)

-- the name that the first word declares which is no gap, if it declares one
abbrev pub lead_in : List Word → List (List ℕ)
lead_in [] = []
lead_in (Gap text ∷ words) = lead_in words
lead_in (Bind name ∷ words) = name ∷ []
lead_in (word ∷ words) = []

-- the names, where the keyword `function` stands before them
abbrev pub names_behind : Option Bool → List (List ℕ) → List (List ℕ)
names_behind None names = []
names_behind (Some b) names = elim b [ true ↦ names | false ↦ [] ]

-- the names that `function` declares
abbrev pub hoisted_in : List Word → List (List ℕ)
hoisted_in [] = []
hoisted_in (word ∷ words) = names_behind (trail_of word) (lead_in words) ++ hoisted_in words

-- ---- what is declared and what is used now, in order

pub data Event : Type 0 where
  Declares : List ℕ → Event
  UsesNow : List ℕ → Event

abbrev pub event_of : Word → Option Event
event_of (Bind name) = Some (Declares name)
event_of (Refer name true) = Some (UsesNow name)
event_of word = None

-- ---- braces, and the names that aren't used now outside of them

-- Names at the level where words begin, or where they came to below it. Last: so many braces are open behind the
-- words. Below: a brace closes that stood open before them.
pub data Levels : Type 0 where
  Last : List (List ℕ) → ℕ → Levels
  Below : List (List ℕ) → Levels → Levels

abbrev pub with_names : List (List ℕ) → Levels → Levels
with_names names (Last more count) = Last (names ++ more) count
with_names names (Below more levels) = Below (names ++ more) levels

-- behind a brace that opens
abbrev pub opening : Levels → Levels
opening (Last names count) = Last [] (suc count)
opening (Below names levels) = levels

-- behind so many
abbrev pub opening_by : ℕ → Levels → Levels
opening_by zero levels = levels
opening_by (suc count) levels = opening (opening_by count levels)

-- without names
abbrev pub blank : Levels → Levels
blank (Last names count) = Last [] count
blank (Below names levels) = Below [] (blank levels)

abbrev pub is_arrow : Word → Bool
is_arrow (Punct place) = place == punct.ARROW
is_arrow word = false

-- a word before others; behind `=>` no name counts
abbrev pub leveled : Word → Levels → Levels
leveled (Refer name false) levels = with_names (name ∷ []) levels
leveled (Punct place) levels =
    elim (place == punct.ARROW) [
      | true ↦ blank levels
      | false ↦
          elim (place == punct.OPEN_BRACE) [
            | true ↦ opening levels
            | false ↦ elim (place == punct.CLOSE_BRACE) [ true ↦ Below [] levels | false ↦ levels ]
          ]
    ]
leveled word levels = levels

abbrev pub levels_in : List Word → Levels
levels_in [] = Last [] 0
levels_in (word ∷ words) = leveled word (levels_in words)

-- how many braces are open behind words, where so many are open before them
abbrev pub depth_behind : ℕ → Levels → ℕ
depth_behind depth (Last names count) = depth + count
depth_behind depth (Below names levels) = depth_behind (closing depth) levels

-- the names that words use outside all braces, and not now, where so many braces are open before them
abbrev pub names_outside : ℕ → Levels → List (List ℕ)
names_outside zero (Last names count) = names
names_outside (suc depth) (Last names count) = []
names_outside zero (Below names levels) = names ++ names_outside zero levels
names_outside (suc depth) (Below names levels) = names_outside depth levels

-- ---- facts

pub record Facts : Type 0 where
  -- names by what the words do with them: declare, use, and use when the item is evaluated; locals likewise; exports
  -- that are taken, computed keys, names for the outside, names of properties
  pub binds : List (List ℕ)
  pub uses : List (List ℕ)
  pub uses_now : List (List ℕ)
  pub hosts : List (List ℕ)
  pub hosts_now : List (List ℕ)
  pub local_binds : List (List ℕ)
  pub locals : List (List ℕ)
  pub takes : List (List ℕ)
  pub keys : List (List ℕ)
  pub outers : List (List ℕ)
  pub props : List (List ℕ)
  -- names of the module's scope that are accessed, and those before the access of an export
  pub opened : List (List ℕ)
  pub gated : List (List ℕ)
  -- loading order: what is declared and used now in order, names of function declarations, the name that the words
  -- begin by declaring and whether they end with `function`, braces with the names outside of them that aren't used
  -- now, whether `=>` is there
  pub order : List Event
  pub hoisted : List (List ℕ)
  pub lead : List (List ℕ)
  pub trail : Option Bool
  pub levels : Levels
  pub arrowed : Bool
  -- words without a name are as their kinds say, each two neighbours stand by their kinds, the keyword `export` is
  -- there
  pub proper : Bool
  pub spaced : Bool
  pub exported : Bool
  -- notes: which turn is the last, and whether they stand where none is open, and where one is
  pub turn : Option Bool
  pub outside : Bool
  pub inside : Bool
  pub ends : Ends

abbrev pub facts : List Word → Facts
facts words = record {
  binds = bound_in words;
  uses = used_in words;
  uses_now = filter_map used_now_name words;
  hosts = hosted_in words;
  hosts_now = filter_map hosted_now_name words;
  local_binds = local_bound_in words;
  locals = local_in words;
  takes = wasm_in words;
  keys = spliced_in words;
  outers = filter_map outer_name words;
  props = filter_map prop_name words;
  opened = pairs_in opened_name words;
  gated = pairs_in gated_name words;
  order = filter_map event_of words;
  hoisted = hoisted_in words;
  lead = lead_in words;
  trail = trail_in words;
  levels = levels_in words;
  arrowed = list_any is_arrow words;
  proper = list_all is_proper words;
  spaced = all_pairs meets_well words;
  exported = list_any is_export_key words;
  turn = turn_in words;
  outside = notes_stand false words;
  inside = notes_stand true words;
  ends = ends_of words;
}

-- ---- facts of joined words

abbrev pub seam_names : (Word → Word → List (List ℕ)) → Ends → Ends → List (List ℕ)
seam_names give None second = []
seam_names give (Some first) None = []
seam_names give (Some first) (Some second) = give first.1 second.0

abbrev pub seam_stands : (Word → Word → Bool) → Ends → Ends → Bool
seam_stands test None second = true
seam_stands test (Some first) None = true
seam_stands test (Some first) (Some second) = test first.1 second.0

abbrev pub joined_ends : Ends → Ends → Ends
joined_ends None second = second
joined_ends (Some first) None = Some first
joined_ends (Some first) (Some second) = Some (first.0, second.1)

-- whether notes stand behind a turn, where they began outside or inside
abbrev pub stands_behind : Bool → Option Bool → Facts → Bool
stands_behind began None f = if began then f.inside else f.outside
stands_behind began (Some b) f = if b then f.inside else f.outside

-- the first name of joined words: that of the first, unless they are gaps alone
abbrev pub joined_lead : Option Bool → List (List ℕ) → List (List ℕ) → List (List ℕ)
joined_lead None first second = second
joined_lead (Some b) first second = first

abbrev pub joined_levels : Levels → Levels → Levels
joined_levels (Last names count) second = with_names names (opening_by count second)
joined_levels (Below names levels) second = Below names (joined_levels levels second)

-- levels behind words that hold `=>`
abbrev pub levels_behind : Bool → Levels → Levels
levels_behind arrowed levels = elim arrowed [ true ↦ blank levels | false ↦ levels ]

abbrev pub joined : Facts → Facts → Facts
joined f g = record {
  binds = f.binds ++ g.binds;
  uses = f.uses ++ g.uses;
  uses_now = f.uses_now ++ g.uses_now;
  hosts = f.hosts ++ g.hosts;
  hosts_now = f.hosts_now ++ g.hosts_now;
  local_binds = f.local_binds ++ g.local_binds;
  locals = f.locals ++ g.locals;
  takes = f.takes ++ g.takes;
  keys = f.keys ++ g.keys;
  outers = f.outers ++ g.outers;
  props = f.props ++ g.props;
  opened = f.opened ++ (seam_names opened_name f.ends g.ends ++ g.opened);
  gated = f.gated ++ (seam_names gated_name f.ends g.ends ++ g.gated);
  order = f.order ++ g.order;
  hoisted = f.hoisted ++ (names_behind f.trail g.lead ++ g.hoisted);
  lead = joined_lead f.trail f.lead g.lead;
  trail = later f.trail g.trail;
  levels = joined_levels f.levels (levels_behind f.arrowed g.levels);
  arrowed = f.arrowed || g.arrowed;
  proper = f.proper && g.proper;
  spaced = f.spaced && (seam_stands meets_well f.ends g.ends && g.spaced);
  exported = f.exported || g.exported;
  turn = later f.turn g.turn;
  outside = f.outside && stands_behind false f.turn g;
  inside = f.inside && stands_behind true f.turn g;
  ends = joined_ends f.ends g.ends;
}
