-- The words that are read keep their limits.
use Rattle.std.proofs.Common.{◌≡◌, ◌∙◌, ◌∷◌, ◌<◌, ◌+◌, ◌-◌, ◌==◌, ◌||◌, ◌&&◌, pos, [], List, ℕ, Bool, true, false}
use Rattle.std.proofs.Common.{length, take, refl, sym, ap, arith, zero, suc}
use Rattle.std.specs.Prelude.{Option, Some, None, Result, Ok, Err, codes, if◌then◌else◌}
use Rattle.std.specs.List.{list_all, fold}
use Rattle.std.specs.Str.{bytes_eq, is_utf8}
use Rattle.std.specs.Char.{is_ascii_alphabetic}
use Rattle.std.proofs.lemmas.Bool.{and_parts, lt-ltb}
use Rattle.std.proofs.lemmas.Bool.Decides.{Decides-eqb}
use Rattle.glue_words.specs.Ident.{is_ident}
use Rattle.glue_words.specs.Limits.{keeps_limits, is_gap, is_template, is_prop}
use Rattle.glue_words.specs.Literal.{literal, read_literal}
use Rattle.glue_words.specs.Tables.{key_table, punct_table}
use Rattle.glue_words.proofs.Idents.{ascii_prop}
use Rattle.glue_words.specs.declared.word.Word.{Word}
use Rattle.glue_words.specs.declared.word.Word.TheVariants.{Punct, Key, Regex, Gap, Num, Text, Tpl, Bind, Refer, Host}
use Rattle.glue_words.specs.declared.word.Word.TheVariants.{LocalBind, Local, Prop, Wasm, Outer}
use Rattle.glue_marked.specs.Marked.{allowed, is_named, is_name_byte, is_free, may_name, name_word, regex_word}
use Rattle.glue_marked.specs.Marked.{marked_word, wasm_word, number_word, digit_added, bare_word, key_place}
use Rattle.glue_marked.specs.Marked.{punct_place, place_of, text_if, text_word, punct_word, word_of, kind_of, len_of}
use Rattle.glue_marked.specs.Marked.{open_after, is_dot, preceded, words_from, read_marked}
use Rattle.glue_marked.specs.Reads.{KeepLimits}
use Rattle.glue_marked.specs.declared.mark_kind.Kind.{Kind}
use Rattle.glue_marked.specs.declared.mark_kind.Kind.TheVariants as kinds
use Rattle.glue_marked.proofs.MarkedTexts.{named_ident, first_is_name}

allowed_keeps : (test : Bool) (made word : Word) → (test ≡ true → keeps_limits made ≡ true)
    → allowed test made ≡ Some word → keeps_limits word ≡ true
allowed_keeps true made word h e = let k : word ≡ made = cc in ap keeps_limits k ∙ h refl
allowed_keeps false made word h e = cc

some_keeps : (made word : Word) → keeps_limits made ≡ true → Some made ≡ Some word → keeps_limits word ≡ true
some_keeps made word h e = let k : word ≡ made = cc in ap keeps_limits k ∙ h

free_ident : (name : List ℕ) → (is_named name && is_free name) ≡ true → is_ident name ≡ true
free_ident name h = let parts = and_parts (is_named name) (is_free name) h in named_ident name parts.0 ∙ parts.1

named_prop : (name : List ℕ) → is_named name ≡ true → is_prop name ≡ true
unfolding is_named is_name_byte
named_prop [] h = cc
named_prop (b ∷ bs) h =
    let parts = and_parts ((b == 36 || (b == 95)) || is_ascii_alphabetic b) (list_all is_name_byte bs) h in
    ascii_prop (b ∷ bs) (ap (λ (x : Bool). x && list_all is_name_byte bs) (first_is_name b parts.0) ∙ parts.1)

name_keeps : (mark : ℕ) (name : List ℕ) → may_name mark name ≡ true → keeps_limits (name_word mark name) ≡ true
unfolding may_name name_word
name_keeps mark name h =
    by_mark (mark == 98) (mark == 117) (mark == 110) (mark == 104) (mark == 103) (mark == 108) (mark == 112)
    (Decides-eqb mark 98).0 (Decides-eqb mark 117).0 (Decides-eqb mark 110).0 (Decides-eqb mark 104).0
    (Decides-eqb mark 103).0 (Decides-eqb mark 108).0 h
  where
    at : (m : ℕ) → mark ≡ m → (is_named name && ((mark == 112 || (mark == 111)) || is_free name)) ≡ true
        → (is_named name && ((m == 112 || (m == 111)) || is_free name)) ≡ true
    at m e h = ap (λ (n : ℕ). is_named name && ((n == 112 || (n == 111)) || is_free name)) (sym e) ∙ h

    by_mark :
        (b u n h g l p : Bool) → (b ≡ true → mark ≡ 98) → (u ≡ true → mark ≡ 117) → (n ≡ true → mark ≡ 110)
        → (h ≡ true → mark ≡ 104) → (g ≡ true → mark ≡ 103) → (l ≡ true → mark ≡ 108) →
        (is_named name && ((mark == 112 || (mark == 111)) || is_free name)) ≡ true →
        keeps_limits
        (if b then Bind name
        else (if u then Refer name false
        else (if n then Refer name true
        else (if h then Host name false
        else (if g then Host name true
        else (if l then LocalBind name
        else (if p then Prop name
        else Outer name)))))))
        ≡ true
    by_mark true u n h g l p eb eu en eh eg el k = free_ident name (at 98 (eb refl) k)
    by_mark false true n h g l p eb eu en eh eg el k = free_ident name (at 117 (eu refl) k)
    by_mark false false true h g l p eb eu en eh eg el k = free_ident name (at 110 (en refl) k)
    by_mark false false false true g l p eb eu en eh eg el k = free_ident name (at 104 (eh refl) k)
    by_mark false false false false true l p eb eu en eh eg el k = free_ident name (at 103 (eg refl) k)
    by_mark false false false false false true p eb eu en eh eg el k = free_ident name (at 108 (el refl) k)
    by_mark false false false false false false true eb eu en eh eg el k =
        named_prop name (and_parts (is_named name) ((mark == 112 || (mark == 111)) || is_free name) k).0
    by_mark false false false false false false false eb eu en eh eg el k = refl

regex_keeps : (name : List ℕ) (word : Word) → regex_word name ≡ Some word → keeps_limits word ≡ true
unfolding regex_word
regex_keeps name word = by_test (bytes_eq name (codes "0")) (bytes_eq name (codes "1"))
  where
    by_test : (zero_is one_is : Bool)
        → (elim zero_is as (λ _. Option Word) [ true ↦ Some (Regex 0) | false ↦ allowed one_is (Regex 1) ])
        ≡ Some word → keeps_limits word ≡ true
    by_test true b e = some_keeps (Regex 0) word refl e
    by_test false b e = allowed_keeps b (Regex 1) word (λ _. refl) e

mark_keeps : (front : List ℕ) (word : Word) → marked_word front ≡ Some word → keeps_limits word ≡ true
unfolding marked_word
mark_keeps [] word e = cc
mark_keeps (mark ∷ []) word e = by_test (mark == 114) e
  where
    by_test : (r : Bool) → (elim r as (λ _. Option Word) [
      | true ↦ regex_word []
      | false ↦ allowed (may_name mark []) (name_word mark [])
    ]) ≡ Some word → keeps_limits word ≡ true
    by_test true e = regex_keeps [] word e
    by_test false e = allowed_keeps (may_name mark []) (name_word mark []) word (name_keeps mark []) e
mark_keeps (mark ∷ c ∷ name) word e = by_test (mark == 114) e
  where
    by_test : (r : Bool) → (elim r as (λ _. Option Word) [
      | true ↦ regex_word name
      | false ↦ allowed (may_name mark name) (name_word mark name)
    ]) ≡ Some word → keeps_limits word ≡ true
    by_test true e = regex_keeps name word e
    by_test false e = allowed_keeps (may_name mark name) (name_word mark name) word (name_keeps mark name) e

number_keeps : (digits : List ℕ) (word : Word) → number_word digits ≡ Some word → keeps_limits word ≡ true
unfolding number_word
number_keeps digits word e = by_number (fold digit_added (Some 0) digits) e
  where
    by_number : (n : Option ℕ)
        → (elim n as (λ _. Option Word) [ None ↦ None | Some m ↦ Some (Num (pos m)) ]) ≡ Some word
        → keeps_limits word ≡ true
    by_number None e = cc
    by_number (Some m) e = some_keeps (Num (pos m)) word refl e

place_below : (text : List ℕ) (first place : ℕ) (table : List (List ℕ)) → place_of text first table ≡ Some place
    → place < first + length table
unfolding place_of
place_below text first place [] e = cc
place_below text first place (entry ∷ entries) e =
    by_test (bytes_eq entry text) e (λ k. let h = place_below text (first + 1) place entries k in omega arith)
  where
    by_test : (same : Bool) →
        (elim same as (λ _. Option ℕ) [ true ↦ Some first | false ↦ place_of text (first + 1) entries ]) ≡ Some place →
        (place_of text (first + 1) entries ≡ Some place → place < first + length (entry ∷ entries))
        → place < first + length (entry ∷ entries)
    by_test true e more = let k : first ≡ place = cc in omega arith
    by_test false e more = more e

bare_keeps : (dot : Bool) (name : List ℕ) (word : Word) → bare_word dot name ≡ Some word → keeps_limits word ≡ true
unfolding bare_word key_place
bare_keeps true name word e = allowed_keeps (is_named name) (Prop name) word (named_prop name) e
bare_keeps false name word e = by_place (place_of name 0 key_table) refl e
  where
    by_place : (found : Option ℕ) → place_of name 0 key_table ≡ found →
        (elim found as (λ _. Option Word) [
          | Some place ↦ Some (Key place)
          | None ↦ allowed (is_named name && is_free name) (Local name)
        ]) ≡ Some word → keeps_limits word ≡ true
    by_place None f e = allowed_keeps (is_named name && is_free name) (Local name) word (free_ident name) e
    by_place (Some place) f e = some_keeps (Key place) word (lt-ltb place 43 (place_below name 0 place key_table f)) e

text_keeps : (front : List ℕ) (word : Word) → text_word front ≡ Some word → keeps_limits word ≡ true
unfolding text_word text_if
text_keeps front word e = by_text (read_literal front) e
  where
    by_utf8 : (text : List ℕ) (u : Bool)
        → (elim u as (λ _. Option Word) [
          | true ↦ allowed (bytes_eq (literal text) front) (Text text)
          | false ↦ None
        ]) ≡ Some word → keeps_limits word ≡ true
    by_utf8 text true e = allowed_keeps (bytes_eq (literal text) front) (Text text) word (λ _. refl) e
    by_utf8 text false e = cc

    by_text : (read : Option (List ℕ))
        → (elim read as (λ _. Option Word) [ None ↦ None | Some text ↦ text_if text front ]) ≡ Some word
        → keeps_limits word ≡ true
    by_text None e = cc
    by_text (Some text) e = by_utf8 text (is_utf8 text) e

punct_keeps : (front : List ℕ) (word : Word) → punct_word front ≡ Some word → keeps_limits word ≡ true
unfolding punct_word punct_place
punct_keeps front word e = by_place (place_of front 0 punct_table) refl e
  where
    by_place : (found : Option ℕ) → place_of front 0 punct_table ≡ found
        → (elim found as (λ _. Option Word) [ None ↦ None | Some place ↦ Some (Punct place) ]) ≡ Some word
        → keeps_limits word ≡ true
    by_place None f e = cc
    by_place (Some place) f e =
        some_keeps (Punct place) word (lt-ltb place 45 (place_below front 0 place punct_table f)) e

pub word_keeps : (kind : Kind) (dot : Bool) (front : List ℕ) (word : Word) → word_of kind dot front ≡ Some word
    → keeps_limits word ≡ true
unfolding word_of wasm_word
word_keeps kinds.Template dot front word e = allowed_keeps (is_template front) (Tpl front) word (λ h. h) e
word_keeps kinds.Mark dot front word e = mark_keeps front word e
word_keeps kinds.Wasm dot front word e = allowed_keeps _ (Wasm _) word (λ _. refl) e
word_keeps kinds.Gap dot front word e = allowed_keeps (is_gap front) (Gap front) word (λ h. h) e
word_keeps kinds.Number dot front word e = number_keeps front word e
word_keeps kinds.Name dot front word e = bare_keeps dot front word e
word_keeps kinds.Text dot front word e = text_keeps front word e
word_keeps kinds.Punct dot front word e = punct_keeps front word e

words_keep : (place left : ℕ) (opened : List Bool) (dot : Bool) (bytes : List ℕ) (words : List Word)
    → words_from place left opened dot bytes ≡ Ok words → list_all keeps_limits words ≡ true
unfolding words_from preceded
words_keep place left opened dot [] words e = let k : words ≡ [] = cc in rw k refl
words_keep place (suc left) opened dot (b ∷ bs) words e = words_keep (place + 1) left opened dot bs words e
words_keep place zero opened dot (b ∷ bs) words e =
    let kind = kind_of opened (b ∷ bs) in
    let left = len_of kind (b ∷ bs) - 1 in
    by_word left (word_of kind dot (b ∷ take left bs)) (word_keeps kind dot (b ∷ take left bs)) e
    (λ word. words_keep (place + 1) left (open_after opened word) (is_dot word) bs)
  where
    by_rest : (word : Word) (rest : Result (List Word) ℕ) → keeps_limits word ≡ true → preceded word rest ≡ Ok words
        → ((others : List Word) → rest ≡ Ok others → list_all keeps_limits others ≡ true)
        → list_all keeps_limits words ≡ true
    by_rest word (Ok others) k e more =
        let w : words ≡ word ∷ others = cc in
        rw w (ap (λ (x : Bool). x && list_all keeps_limits others) k ∙ more others refl)
    by_rest word (Err p) k e more = cc

    by_word : (left : ℕ) (found : Option Word) → ((word : Word) → found ≡ Some word → keeps_limits word ≡ true) →
        (elim found as (λ _. Result (List Word) ℕ) [
          | None ↦ Err place
          | Some word ↦ preceded word (words_from (place + 1) left (open_after opened word) (is_dot word) bs)
        ])
        ≡ Ok words →
        ((word : Word) (others : List Word)
        → words_from (place + 1) left (open_after opened word) (is_dot word) bs ≡ Ok others
        → list_all keeps_limits others ≡ true) → list_all keeps_limits words ≡ true
    by_word left None each e more = cc
    by_word left (Some word) each e more = by_rest word _ (each word refl) e (more word)

pub read_keeps : (text : List ℕ) (words : List Word) → read_marked text ≡ Ok words → KeepLimits words
unfolding read_marked KeepLimits
read_keeps text words e = words_keep 0 0 [] false text words e
