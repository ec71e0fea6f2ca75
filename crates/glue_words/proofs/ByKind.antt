-- Words that stand next to one another by their kinds, whatever names they hold.
use Rattle.std.proofs.Common.{◌≡◌, ℕ, zero, suc, List, ◌∷◌, [], ◌++◌, refl, ap, sym, ◌∙◌, Bool, true, false, true≢false, cond, arith, inl, inr, ◌⊎◌}
use Rattle.std.proofs.lemmas.Bool.{and_parts}
use Rattle.std.proofs.lemmas.Bool.Decides.{nat_tests}
use Rattle.std.specs.Prelude.{Option, Some, None, ◌&&◌, ◌||◌, ◌==◌, not, nat_lt, slice_index_or, codes, length}
use Rattle.std.specs.List.{list_all, flat_map}
use Rattle.std.specs.Str.{chars}
use Rattle.glue_words.specs.declared.word.NoteKind.{NoteKind}
use Rattle.glue_words.specs.declared.word.NoteKind.TheVariants.{Open, Line, Close, Slash, Block}
use Rattle.glue_words.specs.declared.word.Word.{Word}
use Rattle.glue_words.specs.declared.word.Word.TheVariants.{Punct, Key, Regex, Gap, Num, Text, Tpl, Note, Bind, Refer, Host, LocalBind, Local, Prop, Wasm, Outer, Splice}
use Rattle.glue_words.specs.Tables.{punct_table, key_table, regex_table, punct_text, regex_text}
use Rattle.glue_words.specs.Ident.{is_ident}
use Rattle.glue_words.specs.Literal.{literal, escaped_char}
use Rattle.glue_words.specs.Limits.{first_passes, last_passes, is_gap_byte, is_gap, is_end, is_brace, is_template_rest, is_template, is_prop, keeps_limits, is_computed}
use Rattle.glue_words.specs.Words.{text_of, note_body, note_text, access}
use Rattle.glue_words.specs.Spacing.{is_ident_byte, is_big_number, is_misread, is_loose_access, is_line_note, is_line_gap, stands, joins, first_word, each_next}
use Rattle.glue_words.specs.Facts.{may_begin, note_may_end, may_end, may_meet}
use Rattle.glue_words.proofs.Idents.{is_ascii_ident, ascii_ident, is_ascii_prop, ascii_prop}

-- ---- what the kind of a word tells

-- the kinds let a word stand before what follows it
abbrev pub stands_by_kind : Word → Option Word → Bool
stands_by_kind word None = not (is_line_note word)
stands_by_kind word (Some next) =
    ((not (may_meet word next) && not (is_misread word next)) && not (is_loose_access word next)) && (not (is_line_note word) || is_line_gap next)

-- a computed key has the form of one
abbrev pub is_formed : Word → Bool
is_formed (Splice text) = is_computed text
is_formed word = true

-- a word is as its kind says
abbrev pub is_sound : Word → Bool
is_sound word = keeps_limits word && is_formed word

abbrev pub is_sound_next : Option Word → Bool
is_sound_next None = true
is_sound_next (Some word) = is_sound word

-- ---- first and last bytes

pub last-append : (p : ℕ → Bool) (xs : List ℕ) (b : ℕ) (bs : List ℕ) → last_passes p (xs ++ b ∷ bs) ≡ last_passes p (b ∷ bs)
last-append p [] b bs = refl
last-append p (x ∷ []) b bs = refl
last-append p (x ∷ y ∷ xs) b bs = last-append p (y ∷ xs) b bs

-- no byte of an identifier at either end
abbrev is_closed : List ℕ → Bool
is_closed text = not (first_passes is_ident_byte text) && not (last_passes is_ident_byte text)

not_false : (b : Bool) → not b ≡ true → b ≡ false
not_false true h = sym h
not_false false h = refl

entry_closed : (table : List (List ℕ)) (place : ℕ) → list_all is_closed table ≡ true → is_closed (slice_index_or table place []) ≡ true
entry_closed [] place h = refl
entry_closed (entry ∷ table) zero h = (and_parts (is_closed entry) (list_all is_closed table) h).0
entry_closed (entry ∷ table) (suc place) h = entry_closed table place (and_parts (is_closed entry) (list_all is_closed table) h).1

punct_closed : (place : ℕ) → is_closed (punct_text place) ≡ true
unfolding punct_text
punct_closed place = entry_closed punct_table place refl

regex_closed : (place : ℕ) → is_closed (regex_text place) ≡ true
unfolding regex_text
regex_closed place = entry_closed regex_table place refl

closed_first : (text : List ℕ) → is_closed text ≡ true → first_passes is_ident_byte text ≡ false
closed_first text h = not_false _ (and_parts (not (first_passes is_ident_byte text)) (not (last_passes is_ident_byte text)) h).0

closed_last : (text : List ℕ) → is_closed text ≡ true → last_passes is_ident_byte text ≡ false
closed_last text h = not_false _ (and_parts (not (first_passes is_ident_byte text)) (not (last_passes is_ident_byte text)) h).1

either_byte : (b m n : ℕ) → (b == m || (b == n)) ≡ true → (b ≡ m) ⊎ (b ≡ n)
either_byte b m n h = grind (arith, nat_tests)

one_byte : (b n : ℕ) → (b == n) ≡ true → b ≡ n
one_byte b n h = grind (arith, nat_tests)

not_ident_byte : (b n : ℕ) → b ≡ n → is_ident_byte n ≡ false → is_ident_byte b ≡ false
not_ident_byte b n e h = ap is_ident_byte e ∙ h

gap_byte : (b : ℕ) → is_gap_byte b ≡ true → is_ident_byte b ≡ false
gap_byte b h = elim (either_byte b 32 10 h) [ inl e ↦ not_ident_byte b 32 e refl | inr e ↦ not_ident_byte b 10 e refl ]

gap_first : (text : List ℕ) → is_gap text ≡ true → first_passes is_ident_byte text ≡ false
gap_first [] h = refl
gap_first (b ∷ bs) h = gap_byte b (and_parts (is_gap_byte b) (list_all is_gap_byte bs) h).0

pub gap_last : (text : List ℕ) → list_all is_gap_byte text ≡ true → last_passes is_ident_byte text ≡ false
gap_last [] h = refl
gap_last (b ∷ []) h = gap_byte b (and_parts (is_gap_byte b) true h).0
gap_last (b ∷ c ∷ bs) h = gap_last (c ∷ bs) (and_parts (is_gap_byte b) (list_all is_gap_byte (c ∷ bs)) h).1

pub gap_all : (text : List ℕ) → is_gap text ≡ true → list_all is_gap_byte text ≡ true
gap_all [] h = refl
gap_all (b ∷ bs) h = h

literal_last : (text : List ℕ) → last_passes is_ident_byte (literal text) ≡ false
unfolding literal
literal_last text = last-append is_ident_byte (34 ∷ flat_map escaped_char (chars text)) 34 []

literal_first : (text : List ℕ) → first_passes is_ident_byte (literal text) ≡ false
unfolding literal
literal_first text = refl

template_first : (text : List ℕ) → is_template text ≡ true → first_passes is_ident_byte text ≡ false
template_first [] h = refl
template_first (b ∷ bs) h = elim (either_byte b 96 125 (and_parts (b == 96 || (b == 125)) (is_template_rest false bs) h).0) [
  | inl e ↦ not_ident_byte b 96 e refl
  | inr e ↦ not_ident_byte b 125 e refl
]

end_last : (b : ℕ) (bs : List ℕ) → is_ident_byte b ≡ false → is_end bs ≡ true → last_passes is_ident_byte (b ∷ bs) ≡ false
end_last b [] h k = h
end_last b (c ∷ bs) h k = absurd (true≢false (sym k))

brace_last : (b : ℕ) (bs : List ℕ) → is_brace bs ≡ true → last_passes is_ident_byte (b ∷ bs) ≡ false
brace_last b [] h = absurd (true≢false (sym h))
brace_last b (c ∷ bs) h =
    let parts = and_parts (c == 123) (is_end bs) h in
    end_last c bs (not_ident_byte c 123 (one_byte c 123 parts.0) refl) parts.1

longer_last : (b : ℕ) (bs : List ℕ) (escaped : Bool) → is_template_rest escaped bs ≡ true → last_passes is_ident_byte bs ≡ false → last_passes is_ident_byte (b ∷ bs) ≡ false
longer_last b [] escaped h k = absurd (true≢false (sym h))
longer_last b (c ∷ bs) escaped h k = k

plain_step : (b : ℕ) (bs : List ℕ) (a c d : Bool) → (b == 96) ≡ a → (b == 36) ≡ c → (b == 92) ≡ d
    → cond a (is_end bs) (cond c (is_brace bs) (cond d (is_template_rest true bs) ((nat_lt 31 b && nat_lt b 127) && is_template_rest false bs))) ≡ true
    → ((escaped : Bool) → is_template_rest escaped bs ≡ true → last_passes is_ident_byte bs ≡ false) → last_passes is_ident_byte (b ∷ bs) ≡ false
plain_step b bs true c d ea ec ed h rest = end_last b bs (not_ident_byte b 96 (one_byte b 96 ea) refl) h
plain_step b bs false true d ea ec ed h rest = brace_last b bs h
plain_step b bs false false true ea ec ed h rest = longer_last b bs true h (rest true h)
plain_step b bs false false false ea ec ed h rest =
    let last = (and_parts (nat_lt 31 b && nat_lt b 127) (is_template_rest false bs) h).1 in longer_last b bs false last (rest false last)

template_rest_last : (bs : List ℕ) (escaped : Bool) → is_template_rest escaped bs ≡ true → last_passes is_ident_byte bs ≡ false
template_rest_last [] escaped h = refl
template_rest_last (b ∷ bs) true h =
    let last = (and_parts (b == 110) (is_template_rest false bs) h).1 in longer_last b bs false last (template_rest_last bs false last)
template_rest_last (b ∷ bs) false h =
    plain_step b bs (b == 96) (b == 36) (b == 92) refl refl refl h (λ escaped k. template_rest_last bs escaped k)

template_last : (text : List ℕ) → is_template text ≡ true → last_passes is_ident_byte text ≡ false
template_last [] h = refl
template_last (b ∷ bs) h =
    let rest = (and_parts (b == 96 || (b == 125)) (is_template_rest false bs) h).1 in
    longer_last b bs false rest (template_rest_last bs false rest)

note_first : (kind : NoteKind) (text : List ℕ) → first_passes is_ident_byte (note_text kind text) ≡ false
note_first Open text = refl
note_first Line text = refl
note_first Close text = refl
note_first Slash text = refl
note_first Block text = refl

note_last : (kind : NoteKind) (text : List ℕ) → note_may_end kind ≡ false → last_passes is_ident_byte (note_text kind text) ≡ false
note_last Open text h = refl
note_last Line text h = absurd (true≢false h)
note_last Close text h = refl
note_last Slash text h = absurd (true≢false h)
note_last Block text h = last-append is_ident_byte (codes "/* " ++ note_body text) 32 (42 ∷ 47 ∷ [])

access_either : (b : Bool) (name : List ℕ) (other : List ℕ) → first_passes is_ident_byte (cond b (46 ∷ name) (91 ∷ other)) ≡ false
access_either true name other = refl
access_either false name other = refl

access_first : (name : List ℕ) → first_passes is_ident_byte (access name) ≡ false
unfolding access
access_first name = access_either (is_ident name) name _

key_first : (text : List ℕ) → first_passes (λ b. b == 91) text ≡ true → first_passes is_ident_byte text ≡ false
key_first [] h = refl
key_first (b ∷ bs) h = not_ident_byte b 91 (one_byte b 91 h) refl

key_last : (text : List ℕ) → last_passes (λ b. b == 93) text ≡ true → last_passes is_ident_byte text ≡ false
key_last [] h = refl
key_last (b ∷ []) h = not_ident_byte b 93 (one_byte b 93 h) refl
key_last (b ∷ c ∷ bs) h = key_last (c ∷ bs) h

pub begins_by_kind : (word : Word) → is_sound word ≡ true → may_begin word ≡ false → first_passes is_ident_byte (text_of word) ≡ false
begins_by_kind (Punct place) s h = closed_first (punct_text place) (punct_closed place)
begins_by_kind (Key place) s h = absurd (true≢false h)
begins_by_kind (Regex place) s h = closed_first (regex_text place) (regex_closed place)
begins_by_kind (Gap text) s h = gap_first text (and_parts (is_gap text) true s).0
begins_by_kind (Num value) s h = absurd (true≢false h)
begins_by_kind (Text text) s h = literal_first text
begins_by_kind (Tpl text) s h = template_first text (and_parts (is_template text) true s).0
begins_by_kind (Note kind text) s h = note_first kind text
begins_by_kind (Bind name) s h = absurd (true≢false h)
begins_by_kind (Refer name now) s h = absurd (true≢false h)
begins_by_kind (Host name now) s h = absurd (true≢false h)
begins_by_kind (LocalBind name) s h = absurd (true≢false h)
begins_by_kind (Local name) s h = absurd (true≢false h)
begins_by_kind (Prop name) s h = absurd (true≢false h)
begins_by_kind (Wasm name) s h = access_first name
begins_by_kind (Outer name) s h = absurd (true≢false h)
begins_by_kind (Splice text) s h = key_first text (and_parts (first_passes (λ b. b == 91) text) (last_passes (λ b. b == 93) text) s).0

pub ends_by_kind : (word : Word) → is_sound word ≡ true → may_end word ≡ false → last_passes is_ident_byte (text_of word) ≡ false
ends_by_kind (Punct place) s h = closed_last (punct_text place) (punct_closed place)
ends_by_kind (Key place) s h = absurd (true≢false h)
ends_by_kind (Regex place) s h = closed_last (regex_text place) (regex_closed place)
ends_by_kind (Gap text) s h = gap_last text (gap_all text (and_parts (is_gap text) true s).0)
ends_by_kind (Num value) s h = absurd (true≢false h)
ends_by_kind (Text text) s h = literal_last text
ends_by_kind (Tpl text) s h = template_last text (and_parts (is_template text) true s).0
ends_by_kind (Note kind text) s h = note_last kind text h
ends_by_kind (Bind name) s h = absurd (true≢false h)
ends_by_kind (Refer name now) s h = absurd (true≢false h)
ends_by_kind (Host name now) s h = absurd (true≢false h)
ends_by_kind (LocalBind name) s h = absurd (true≢false h)
ends_by_kind (Local name) s h = absurd (true≢false h)
ends_by_kind (Prop name) s h = absurd (true≢false h)
ends_by_kind (Wasm name) s h = absurd (true≢false h)
ends_by_kind (Outer name) s h = absurd (true≢false h)
ends_by_kind (Splice text) s h = key_last text (and_parts (first_passes (λ b. b == 91) text) (last_passes (λ b. b == 93) text) s).1

-- ---- what stands by its kind stands

meets_less : (big a c b d : Bool) → (a ≡ false → b ≡ false) → (c ≡ false → d ≡ false) → not (not big && (a && c)) ≡ true → not (not big && (b && d)) ≡ true
meets_less true a c b d f g h = refl
meets_less false true true b d f g h = absurd (true≢false (sym h))
meets_less false true false true d f g h = ap not (g refl)
meets_less false true false false d f g h = refl
meets_less false false c b d f g h = ap (λ x. not (x && d)) (f refl)

and_less : (a b rest : Bool) → (a ≡ true → b ≡ true) → (a && rest) ≡ true → (b && rest) ≡ true
and_less true b rest f h = ap (λ x. x && rest) (f refl) ∙ h
and_less false b rest f h = absurd (true≢false (sym h))

pub stands_from_kind : (word : Word) (next : Option Word) → is_sound word ≡ true → is_sound_next next ≡ true → stands_by_kind word next ≡ true → stands word next ≡ true
stands_from_kind word None s t h = h
stands_from_kind word (Some next) s t h =
    and_less _ _ _ (and_less _ _ _ (and_less _ _ _
    (meets_less (is_big_number word next) (may_begin next) (may_end word) _ _ (begins_by_kind next t) (ends_by_kind word s)))) h

first_sound : (words : List Word) (next : Option Word) → list_all is_sound words ≡ true → is_sound_next next ≡ true → is_sound_next (first_word words next) ≡ true
first_sound [] next s t = t
first_sound (word ∷ words) next s t = (and_parts (is_sound word) (list_all is_sound words) s).0

pub each_from_kind : (words : List Word) (next : Option Word) → list_all is_sound words ≡ true → is_sound_next next ≡ true → each_next stands_by_kind words next ≡ true → each_next stands words next ≡ true
each_from_kind [] next s t h = refl
each_from_kind (word ∷ words) next s t h =
    let sound = and_parts (is_sound word) (list_all is_sound words) s in
    let parts = and_parts (stands_by_kind word (first_word words next)) (each_next stands_by_kind words next) h in
    ap (λ b. b && each_next stands words next) (stands_from_kind word (first_word words next) sound.0 (first_sound words next sound.1 t) parts.0)
    ∙ each_from_kind words next sound.1 t parts.1

pub limits_from_sound : (words : List Word) → list_all is_sound words ≡ true → list_all keeps_limits words ≡ true
limits_from_sound [] s = refl
limits_from_sound (word ∷ words) s =
    let sound = and_parts (is_sound word) (list_all is_sound words) s in
    ap (λ b. b && list_all keeps_limits words) (and_parts (keeps_limits word) (is_formed word) sound.0).0 ∙ limits_from_sound words sound.1

-- ---- words with ASCII names, by a test that reads no table of characters

-- `unfolding spacing` lets `refl` compute whether words stand by their kinds
unfoldable pub spacing : Unit {0}
unfolding joins punct_text
spacing = tt

-- a word is as its kind says, and its name is ASCII
abbrev pub is_plain : Word → Bool
is_plain (Punct place) = nat_lt place (length punct_table)
is_plain (Key place) = nat_lt place (length key_table)
is_plain (Regex place) = nat_lt place (length regex_table)
is_plain (Gap text) = is_gap text
is_plain (Num value) = true
is_plain (Text text) = true
is_plain (Tpl text) = is_template text
is_plain (Note kind text) = true
is_plain (Bind name) = is_ascii_ident name
is_plain (Refer name now) = is_ascii_ident name
is_plain (Host name now) = is_ascii_ident name
is_plain (LocalBind name) = is_ascii_ident name
is_plain (Local name) = is_ascii_ident name
is_plain (Prop name) = is_ascii_prop name
is_plain (Wasm name) = true
is_plain (Outer name) = true
is_plain (Splice text) = is_computed text

and_itself : (b : Bool) → b ≡ true → (b && true) ≡ true
and_itself b h = ap (λ x. x && true) h

pub sound_from_plain : (word : Word) → is_plain word ≡ true → is_sound word ≡ true
sound_from_plain (Punct place) h = and_itself (nat_lt place (length punct_table)) h
sound_from_plain (Key place) h = and_itself (nat_lt place (length key_table)) h
sound_from_plain (Regex place) h = and_itself (nat_lt place (length regex_table)) h
sound_from_plain (Gap text) h = and_itself (is_gap text) h
sound_from_plain (Num value) h = refl
sound_from_plain (Text text) h = refl
sound_from_plain (Tpl text) h = and_itself (is_template text) h
sound_from_plain (Note kind text) h = refl
sound_from_plain (Bind name) h = and_itself (is_ident name) (ascii_ident name h)
sound_from_plain (Refer name now) h = and_itself (is_ident name) (ascii_ident name h)
sound_from_plain (Host name now) h = and_itself (is_ident name) (ascii_ident name h)
sound_from_plain (LocalBind name) h = and_itself (is_ident name) (ascii_ident name h)
sound_from_plain (Local name) h = and_itself (is_ident name) (ascii_ident name h)
sound_from_plain (Prop name) h = and_itself (is_prop name) (ascii_prop name h)
sound_from_plain (Wasm name) h = refl
sound_from_plain (Outer name) h = refl
sound_from_plain (Splice text) h = h

pub all_sound_from_plain : (words : List Word) → list_all is_plain words ≡ true → list_all is_sound words ≡ true
all_sound_from_plain [] h = refl
all_sound_from_plain (word ∷ words) h =
    let parts = and_parts (is_plain word) (list_all is_plain words) h in
    ap (λ b. b && list_all is_sound words) (sound_from_plain word parts.0) ∙ all_sound_from_plain words parts.1
