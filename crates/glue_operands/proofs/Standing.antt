-- How the words of an import's text stand: parts that may stand beside one another give words that do, whatever the names of the locals and
-- the operands are.
use Rattle.std.proofs.Common.{◌≡◌, ℕ, zero, suc, ◌+◌, ◌<◌, pos, List, [], ◌∷◌, ◌++◌, length, length-append, map, refl, ap, sym, ◌∙◌, subst, Bool, true, false, true≢false, cond, arith, append_assoc}
use Rattle.std.proofs.lemmas.Bool.Decides.{nat_tests}
use Rattle.std.proofs.lemmas.Bool.{and_parts}
use Rattle.std.proofs.lemmas.List.{append-nil}
use Rattle.std.proofs.lemmas.List.Splits.{length-slice_split}
use Rattle.std.specs.Prelude.{Option, Some, None, ◌&&◌, ◌==◌, not, nat_lt, codes}
use Rattle.std.specs.List.{list_all, flat_map, slice_split}
use Rattle.glue_words.specs.declared.word.Word.{Word}
use Rattle.glue_words.specs.declared.word.Word.TheVariants as w
use Rattle.glue_words.specs.declared.word.NoteKind.TheVariants.{Slash}
use Rattle.glue_words.specs.Ident.{is_ident}
use Rattle.glue_words.specs.Limits.{is_computed}
use Rattle.glue_words.specs.Names.{wasm_in}
use Rattle.glue_words.specs.Tables.{punct_text}
use Rattle.glue_words.specs.Spacing.{joins, is_wasm, first_word, each_next, begins_apart}
use Rattle.glue_words.specs.Functions.{parenthesised}
use Rattle.glue_words.specs.Words.{space, line_feed}
use Rattle.glue_words.proofs.Idents.{ascii_ident, ident_prop}
use Rattle.glue_words.proofs.Spaced.{each_next_both, all_both}
use Rattle.glue_scope.specs.Properties.{segment_words, property_parts}
use Rattle.glue_tree.specs.Spelling.{is_none, const_start}
use Rattle.glue_tree.specs.FixedWords.{open_paren, close_paren, open_bracket, close_bracket, dot, semicolon}
use Rattle.glue_tree.proofs.Fit.{is_good, spaced, is_line}
use Rattle.glue_steps.specs.Stack.{below, item_at}
use Rattle.glue_imports.specs.declared.part.Part.{Part}
use Rattle.glue_imports.specs.declared.part.Part.TheVariants as part
use Rattle.glue_imports.specs.declared.part.Expression.{Expression}
use Rattle.glue_steps.specs.declared.step.Step.{Step}
use Rattle.glue_steps.specs.declared.step.Step.TheVariants.{CallImport, CallHelper, UnwrapResult, PassToMemory, CopyOut, LoadReturn, StoreReturn, MakeClosure, IndexOf, ItemAt}
use Rattle.glue_operands.specs.Spelling.{Plain, Missing, This, Local, Unsigned, NotZero, path_words, shift_words, unequal_words, is_comparison, word_if, plain_words, guarded_words, argument_words, arguments_words, without_dot, chained_words, part_words, parts_words, import_line_words}
use Rattle.glue_operands.proofs.Each.{Each, each_there, each_item, each_below}
use Rattle.glue_operands.proofs.Parts.{bound_places}
use Rattle.glue_operands.proofs.Paths.{MayFollow, StandsBetween, path_stands, property_stands, property_tells}

and_true : (a b : Bool) → a ≡ true → b ≡ true → (a && b) ≡ true
and_true a b h k = ap (λ x. x && b) h ∙ k

same_number : (m n : ℕ) → (m == n) ≡ true → m ≡ n
same_number m n h = grind (arith, nat_tests)

plus_one : (n : ℕ) → n + 1 ≡ suc n
plus_one n = omega arith

item_between : (front : List (List ℕ)) (x : List ℕ) (rest : List (List ℕ)) → item_at [] (front ++ x ∷ rest) (length front) ≡ x
item_between [] x rest = refl
item_between (y ∷ front) x rest = item_between front x rest

-- ---- parts beside one another

-- the words that a value of the host, or a property, may end with
abbrev closers : List Word
closers = w.Host [] false ∷ w.Prop [] ∷ close_bracket ∷ w.Splice [] ∷ []

-- those that the access of a property may begin with
abbrev accesses : List Word
accesses = dot ∷ open_bracket ∷ w.Splice [] ∷ []

-- `?.`
abbrev optional : Word
optional = w.Punct 11

-- the words that a part may begin with, whatever the names and the operands are
abbrev first_words : Part → List Word
first_words (part.Host name fields) = w.Host [] false ∷ []
first_words (part.Name name) = w.Refer name false ∷ []
first_words part.Exports = w.Refer (codes "wasm") false ∷ []
first_words (part.Export name) = w.Refer (codes "wasm") false ∷ []
first_words (part.Property name) = accesses
first_words (part.Chained name) = optional ∷ []
first_words (part.Member name) = w.Prop name ∷ []
first_words (part.Literal text) = w.Text [] ∷ []
first_words (part.Number value) = w.Num value ∷ []
first_words (part.Punct place) = w.Punct place ∷ []
first_words (part.Key place) = w.Key place ∷ []
first_words part.Space = space ∷ []
first_words part.LineFeed = line_feed ∷ []
first_words (part.Note text) = w.Note Slash text ∷ []
first_words (part.Binding n) = w.LocalBind [] ∷ []
first_words (part.Local n) = w.Local [] ∷ []
first_words (part.Operand n) = w.Key 27 ∷ w.Local [] ∷ open_paren ∷ []
first_words (part.Whole n) = w.Key 27 ∷ w.Local [] ∷ open_paren ∷ []
first_words (part.Arguments spread) = open_paren ∷ []
first_words (part.OtherArguments spread) = open_paren ∷ []

-- those that it may end with
abbrev last_words : Part → List Word
last_words (part.Host name fields) = closers
last_words (part.Name name) = w.Refer name false ∷ []
last_words part.Exports = w.Refer (codes "wasm") false ∷ []
last_words (part.Export name) = w.Wasm [] ∷ []
last_words (part.Property name) = closers
last_words (part.Chained name) = closers
last_words (part.Member name) = w.Prop name ∷ []
last_words (part.Literal text) = w.Text [] ∷ []
last_words (part.Number value) = w.Num value ∷ []
last_words (part.Punct place) = w.Punct place ∷ []
last_words (part.Key place) = w.Key place ∷ []
last_words part.Space = space ∷ []
last_words part.LineFeed = line_feed ∷ []
last_words (part.Note text) = w.Note Slash text ∷ []
last_words (part.Binding n) = w.LocalBind [] ∷ []
last_words (part.Local n) = w.Local [] ∷ []
last_words (part.Operand n) = w.Key 27 ∷ w.Local [] ∷ close_paren ∷ []
last_words (part.Whole n) = w.Key 27 ∷ w.Local [] ∷ w.Num (pos 0) ∷ []
last_words (part.Arguments spread) = close_paren ∷ []
last_words (part.OtherArguments spread) = close_paren ∷ []

-- each of the words may stand before what follows
abbrev all_before : List Word → Option Word → Bool
all_before words next = list_all (λ word. spaced word next) words

-- a word may stand before each of the words
abbrev before_all : Word → List Word → Bool
before_all word nexts = list_all (λ next. spaced word (Some next)) nexts

-- a part may stand before another
abbrev meets : Part → Part → Bool
meets p q = list_all (λ word. before_all word (first_words q)) (last_words p)

-- the words of a part are as their kinds say, and a local is one of so many
abbrev pub part_good : (count : ℕ) → Part → Bool
part_good count (part.Host name fields) = is_ident name
part_good count (part.Name name) = is_ident name
part_good count (part.Member name) = is_ident name
part_good count (part.Punct place) = is_good (w.Punct place)
part_good count (part.Key place) = is_good (w.Key place)
part_good count (part.Binding n) = nat_lt n count
part_good count (part.Local n) = nat_lt n count
part_good count other = true

-- parts that may stand beside one another, and before what follows them
abbrev pub parts_fit : (count : ℕ) → (next : Option Word) → List Part → Bool
parts_fit count next [] = false
parts_fit count next (p ∷ []) = part_good count p && all_before (last_words p) next
parts_fit count next (p ∷ q ∷ parts) = part_good count p && (meets p q && parts_fit count next (q ∷ parts))

-- the last of parts is a line feed
abbrev ends_line : List Part → Bool
ends_line [] = false
ends_line (part.LineFeed ∷ []) = true
ends_line (p ∷ []) = false
ends_line (p ∷ q ∷ parts) = ends_line (q ∷ parts)

-- the parts of statements, each with its line feed
abbrev pub prelude_fits : (count : ℕ) → List Part → Bool
prelude_fits count [] = true
prelude_fits count (p ∷ parts) = parts_fit count None (p ∷ parts) && ends_line (p ∷ parts)

-- the places are so many, from this one on, in order
abbrev in_order : (from count : ℕ) → List ℕ → Bool
in_order from zero [] = true
in_order from (suc count) (n ∷ places) = (n == from) && in_order (suc from) count places
in_order from count places = false

-- the statements declare each local once, in order, and the expression declares none
abbrev declares_all : Expression → Bool
declares_all e = in_order 0 (length e.locals) (bound_places e.prelude) && in_order 0 0 (bound_places e.value)

-- an expression whose parts, and those of the statements before it, may stand beside one another
abbrev pub expression_fits : Expression → Bool
expression_fits e =
    prelude_fits (length e.locals) e.prelude
    && (parts_fit (length e.locals) (Some semicolon) e.value && declares_all e)

-- the parts that a step brings along may stand beside one another
abbrev pub step_fit : Step → Bool
step_fit (CallImport adapter n has_result e) = expression_fits e
step_fit (CallHelper helper n) = is_ident helper && not (is_wasm helper)
step_fit (UnwrapResult helper) = is_ident helper && not (is_wasm helper)
step_fit (PassToMemory helper exports _) = is_ident helper && not (is_wasm helper)
step_fit (CopyOut helper) = is_ident helper && not (is_wasm helper)
step_fit (LoadReturn view offset is_wide) = is_ident view && not (is_wasm view)
step_fit (StoreReturn view offset is_wide) = is_ident view && not (is_wasm view)
step_fit (MakeClosure helper function) = (is_ident helper && not (is_wasm helper)) && (is_ident function && not (is_wasm function))
step_fit (IndexOf list) = is_ident list && not (is_wasm list)
step_fit (ItemAt list) = is_ident list && not (is_wasm list)
step_fit other = true

-- what the test says of an expression
pub record Fitting (e : Expression) : Type 0 where
  pub «prelude» : prelude_fits (length e.locals) e.prelude ≡ true
  pub value : parts_fit (length e.locals) (Some semicolon) e.value ≡ true
  pub declared : in_order 0 (length e.locals) (bound_places e.prelude) ≡ true
  pub undeclared : in_order 0 0 (bound_places e.value) ≡ true

pub fitting : (e : Expression) → expression_fits e ≡ true → Fitting e
fitting e h =
    let a = and_parts (prelude_fits (length e.locals) e.prelude) _ h in
    let b = and_parts (parts_fit (length e.locals) (Some semicolon) e.value) (declares_all e) a.1 in
    let c = and_parts (in_order 0 (length e.locals) (bound_places e.prelude)) (in_order 0 0 (bound_places e.value)) b.1 in
    record { «prelude» = a.0; value = b.0; declared = c.0; undeclared = c.1 }

pub steps_each : (steps : List Step) → list_all step_fit steps ≡ true → Each (λ s. step_fit s ≡ true) steps
steps_each [] h = tt
steps_each (s ∷ steps) h = let parts = and_parts (step_fit s) (list_all step_fit steps) h in
    (parts.0, steps_each steps parts.1)

-- each part is as its kind says
parts_good : (count : ℕ) (next : Option Word) (parts : List Part) → parts_fit count next parts ≡ true → list_all (part_good count) parts ≡ true
parts_good count next [] h = refl
parts_good count next (p ∷ []) h = and_true _ _ (and_parts (part_good count p) _ h).0 refl
parts_good count next (p ∷ q ∷ parts) h =
    let given = and_parts (part_good count p) _ h in
    and_true _ _ given.0 (parts_good count next (q ∷ parts) (and_parts (meets p q) (parts_fit count next (q ∷ parts)) given.1).1)

prelude_good : (count : ℕ) (parts : List Part) → prelude_fits count parts ≡ true → list_all (part_good count) parts ≡ true
prelude_good count [] h = refl
prelude_good count (p ∷ parts) h =
    parts_good count None (p ∷ parts) (and_parts (parts_fit count None (p ∷ parts)) (ends_line (p ∷ parts)) h).0

pub fitting_good : (e : Expression) → Fitting e
    → (list_all (part_good (length e.locals)) e.prelude ≡ true) × (list_all (part_good (length e.locals)) e.value ≡ true)
fitting_good e f = (prelude_good (length e.locals) e.prelude f.«prelude», parts_good (length e.locals) (Some semicolon) e.value f.value)

-- ---- the locals that are declared

-- places in order are those of a list
ordered : (front locals : List (List ℕ)) (places : List ℕ) → in_order (length front) (length locals) places ≡ true
    → map (item_at [] (front ++ locals)) places ≡ locals
ordered front [] [] h = refl
ordered front [] (n ∷ places) h = absurd (true≢false (sym h))
ordered front (x ∷ locals) [] h = absurd (true≢false (sym h))
ordered front (x ∷ locals) (n ∷ places) h =
    let both = and_parts (n == length front) (in_order (suc (length front)) (length locals) places) h in
    let here : n ≡ length front = same_number n (length front) both.0 in
    let longer : length (front ++ x ∷ []) ≡ suc (length front) = length-append front (x ∷ []) ∙ plus_one (length front) in
    let rest = ordered (front ++ x ∷ []) locals places (ap (λ (k : ℕ). in_order k (length locals) places) longer ∙ both.1) in
    ap (λ (k : ℕ). item_at [] (front ++ x ∷ locals) k ∷ map (item_at [] (front ++ x ∷ locals)) places) here
    ∙ ap (λ (y : List ℕ). y ∷ map (item_at [] (front ++ x ∷ locals)) places) (item_between front x locals)
    ∙ ap (λ (ys : List (List ℕ)). x ∷ map (item_at [] ys) places) (sym (append_assoc front (x ∷ []) locals))
    ∙ ap (λ (ys : List (List ℕ)). x ∷ ys) rest

-- the statements declare the locals, and the expression declares none
pub prelude_places : (e : Expression) → Fitting e → (locals : List (List ℕ)) → length locals ≡ length e.locals
    → map (item_at [] locals) (bound_places e.prelude) ≡ locals
prelude_places e f locals same =
    ordered [] locals (bound_places e.prelude) (ap (λ (k : ℕ). in_order 0 k (bound_places e.prelude)) same ∙ f.declared)

pub value_places : (e : Expression) → Fitting e → (locals : List (List ℕ)) → map (item_at [] locals) (bound_places e.value) ≡ []
value_places e f locals = none (bound_places e.value) f.undeclared
  where
    none : (places : List ℕ) → in_order 0 0 places ≡ true → map (item_at [] locals) places ≡ []
    none [] h = refl
    none (n ∷ places) h = absurd (true≢false (sym h))

-- ---- names say nothing of how words stand

local_before : (name : List ℕ) (next : Option Word) → spaced (w.Local name) next ≡ spaced (w.Local []) next
local_before name None = refl
local_before name (Some next) = refl

this_before : (next : Option Word) → spaced (w.Key 35) next ≡ spaced (w.Key 27) next
this_before None = refl
this_before (Some next) = refl

this_behind : (word : Word) → spaced word (Some (w.Key 35)) ≡ spaced word (Some (w.Key 27))
this_behind (w.Punct place) = refl
this_behind other = refl

local_behind : (word : Word) (name : List ℕ) → spaced word (Some (w.Local name)) ≡ spaced word (Some (w.Local []))
local_behind (w.Punct place) name = refl
local_behind other name = refl

host_behind : (word : Word) (name : List ℕ) → spaced word (Some (w.Host name false)) ≡ spaced word (Some (w.Host [] false))
host_behind (w.Punct place) name = refl
host_behind other name = refl

key_behind : (word : Word) (key : List ℕ) → spaced word (Some (w.Splice key)) ≡ spaced word (Some (w.Splice []))
key_behind (w.Punct place) key = refl
key_behind other key = refl

text_behind : (word : Word) (text : List ℕ) → spaced word (Some (w.Text text)) ≡ spaced word (Some (w.Text []))
text_behind (w.Punct place) text = refl
text_behind other text = refl

text_before : (text : List ℕ) (next : Option Word) → spaced (w.Text text) next ≡ spaced (w.Text []) next
text_before text None = refl
text_before text (Some next) = refl

export_before : (name : List ℕ) (next : Option Word) → spaced (w.Wasm name) next ≡ spaced (w.Wasm []) next
export_before name None = refl
export_before name (Some next) = refl

bound_before : (name : List ℕ) (next : Option Word) → spaced (w.LocalBind name) next ≡ spaced (w.LocalBind []) next
bound_before name None = refl
bound_before name (Some next) = refl

bound_behind : (word : Word) (name : List ℕ) → spaced word (Some (w.LocalBind name)) ≡ spaced word (Some (w.LocalBind []))
bound_behind (w.Punct place) name = refl
bound_behind other name = refl

-- what all closers may stand before
follows : (next : Option Word) → all_before closers next ≡ true → MayFollow next
follows None h = record { host = λ name. refl; named = λ name. refl; quoted = refl; spliced = λ key. refl }
follows (Some next) h =
    let host = and_parts (spaced (w.Host [] false) (Some next)) _ h in
    let named = and_parts (spaced (w.Prop []) (Some next)) _ host.1 in
    let quoted = and_parts (spaced close_bracket (Some next)) _ named.1 in
    let spliced = and_parts (spaced (w.Splice []) (Some next)) true quoted.1 in
    record { host = λ name. host.0; named = λ name. named.0; quoted = quoted.0; spliced = λ key. spliced.0 }

-- ---- words that stand as those that they begin and end with

record Stands (firsts lasts words : List Word) : Type 0 where
  good : list_all is_good words ≡ true
  front : (word : Word) (rest : List Word) (next : Option Word) → before_all word firsts ≡ true → spaced word (first_word (words ++ rest) next) ≡ true
  back : (next : Option Word) → all_before lasts next ≡ true → each_next spaced words next ≡ true

-- ---- operands

-- the local of an operand is an identifier
abbrev pub IsNamed : Plain → Type 0
IsNamed Missing = Unit {0}
IsNamed This = Unit {0}
IsNamed (Local name) = is_ident name ≡ true
IsNamed (Unsigned p) = IsNamed p
IsNamed (NotZero p) = IsNamed p

abbrev operand_firsts : List Word
operand_firsts = w.Key 27 ∷ w.Local [] ∷ open_paren ∷ []

abbrev operand_lasts : List Word
operand_lasts = w.Key 27 ∷ w.Local [] ∷ w.Num (pos 0) ∷ []

module _ (word : Word) where
  key_front : before_all word operand_firsts ≡ true → spaced word (Some (w.Key 27)) ≡ true
  key_front h = (and_parts (spaced word (Some (w.Key 27))) _ h).0

  local_front : (name : List ℕ) → before_all word operand_firsts ≡ true → spaced word (Some (w.Local name)) ≡ true
  local_front name h =
      local_behind word name
      ∙ (and_parts (spaced word (Some (w.Local []))) _ (and_parts (spaced word (Some (w.Key 27))) _ h).1).0

  paren_front : before_all word operand_firsts ≡ true → spaced word (Some open_paren) ≡ true
  paren_front h = (and_parts (spaced word (Some open_paren)) true
      (and_parts (spaced word (Some (w.Local []))) _ (and_parts (spaced word (Some (w.Key 27))) _ h).1).1).0

-- `(` before an operand
paren_operand : before_all open_paren operand_firsts ≡ true
unfolding joins punct_text
paren_operand = refl

-- what stands behind the number that an operand may end with
last_number : (next : Option Word) → all_before operand_lasts next ≡ true → spaced (w.Num (pos 0)) next ≡ true
last_number next b =
    (and_parts (spaced (w.Num (pos 0)) next) true
    (and_parts (spaced (w.Local []) next) _ (and_parts (spaced (w.Key 27) next) _ b).1).1).0

-- ` >>> 0` and ` !== 0` before what may stand behind a number
shift_back : (next : Option Word) → spaced (w.Num (pos 0)) next ≡ true → each_next spaced shift_words next ≡ true
shift_back next h = and_true _ _ h refl

unequal_back : (next : Option Word) → spaced (w.Num (pos 0)) next ≡ true → each_next spaced unequal_words next ≡ true
unequal_back next h = and_true _ _ h refl

-- an operand, in parentheses or not, and a shift behind it
shifted_stands : (b : Bool) (words : List Word) → Stands operand_firsts operand_lasts words
    → Stands operand_firsts operand_lasts (word_if b open_paren ++ (words ++ (word_if b close_paren ++ shift_words)))
shifted_stands false words s = record {
  good = all_both is_good words shift_words s.good refl;
  front = λ word rest next f. subst (λ (ws : List Word). spaced word (first_word ws next) ≡ true)
      (sym (append_assoc words shift_words rest)) (s.front word (shift_words ++ rest) next f);
  back = λ next b. each_next_both spaced words shift_words next (s.back (Some space) refl) (shift_back next (last_number next b));
}
shifted_stands true words s = record {
  good = and_true _ _ refl (all_both is_good words (close_paren ∷ shift_words) s.good refl);
  front = λ word rest next f. paren_front word f;
  back = λ next b. and_true _ _ (s.front open_paren (close_paren ∷ shift_words) next paren_operand)
      (each_next_both spaced words (close_paren ∷ shift_words) next (s.back (Some close_paren) refl)
      (and_true _ _ refl (shift_back next (last_number next b))));
}

operand_stands : (p : Plain) → IsNamed p → Stands operand_firsts operand_lasts (plain_words p)
operand_stands Missing h = record {
  good = refl;
  front = λ word rest next f. key_front word f;
  back = λ next b. and_true _ _ (and_parts (spaced (w.Key 27) next) _ b).0 refl;
}
operand_stands This h = record {
  good = refl;
  front = λ word rest next f. this_behind word ∙ key_front word f;
  back = λ next b. and_true _ _ (this_before next ∙ (and_parts (spaced (w.Key 27) next) _ b).0) refl;
}
operand_stands (Local name) h = record {
  good = ap (λ (b : Bool). (((b && true) && true) && true) && true) h;
  front = λ word rest next f. local_front word name f;
  back = λ next b. and_true _ _
      (local_before name next ∙ (and_parts (spaced (w.Local []) next) _ (and_parts (spaced (w.Key 27) next) _ b).1).0) refl;
}
operand_stands (Unsigned p) h = shifted_stands (is_comparison p) (plain_words p) (operand_stands p h)
operand_stands (NotZero p) h =
    let inner = operand_stands p h in record {
      good = all_both is_good (plain_words p) unequal_words inner.good refl;
      front = λ word rest next f. subst (λ (words : List Word). spaced word (first_word words next) ≡ true)
          (sym (append_assoc (plain_words p) unequal_words rest)) (inner.front word (unequal_words ++ rest) next f);
      back = λ next b. each_next_both spaced (plain_words p) unequal_words next (inner.back (Some space) refl)
          (unequal_back next (last_number next b));
    }

-- words in parentheses, where those inside may stand behind `(` and before `)`
parens_stand : (firsts lasts words : List Word) → Stands firsts lasts words → before_all open_paren firsts ≡ true
    → all_before lasts (Some close_paren) ≡ true → Stands (open_paren ∷ []) (close_paren ∷ []) (parenthesised words)
parens_stand firsts lasts words s f l = record {
  good = and_true _ _ refl (all_both is_good words (close_paren ∷ []) s.good refl);
  front = λ word rest next h. (and_parts (spaced word (Some open_paren)) true h).0;
  back = λ next h. and_true _ _ (s.front open_paren (close_paren ∷ []) next f)
      (each_next_both spaced words (close_paren ∷ []) next (s.back (Some close_paren) l)
      (and_true _ _ (and_parts (spaced close_paren next) true h).0 refl));
}

-- an operand in parentheses, beside what may stand beside any operand
enclosed_stands : (words : List Word) → Stands operand_firsts operand_lasts words
    → Stands (w.Key 27 ∷ w.Local [] ∷ open_paren ∷ []) (w.Key 27 ∷ w.Local [] ∷ close_paren ∷ []) (parenthesised words)
enclosed_stands words inner =
    let s : Stands (open_paren ∷ []) (close_paren ∷ []) (parenthesised words) =
    parens_stand operand_firsts operand_lasts words inner paren_operand refl in record {
      good = s.good;
      front = λ word rest next f. paren_front word f;
      back = λ next b. s.back next
          (and_parts (spaced (w.Local []) next) _ (and_parts (spaced (w.Key 27) next) _ b).1).1;
    }

-- an operand in parentheses where it holds an operator
guarded_stands : (p : Plain) → IsNamed p
    → Stands (w.Key 27 ∷ w.Local [] ∷ open_paren ∷ []) (w.Key 27 ∷ w.Local [] ∷ close_paren ∷ []) (guarded_words p)
guarded_stands Missing h = record {
  good = refl;
  front = λ word rest next f. (and_parts (spaced word (Some (w.Key 27))) _ f).0;
  back = λ next b. and_true _ _ (and_parts (spaced (w.Key 27) next) _ b).0 refl;
}
guarded_stands This h = record {
  good = refl;
  front = λ word rest next f. this_behind word ∙ (and_parts (spaced word (Some (w.Key 27))) _ f).0;
  back = λ next b. and_true _ _ (this_before next ∙ (and_parts (spaced (w.Key 27) next) _ b).0) refl;
}
guarded_stands (Local name) h = record {
  good = (operand_stands (Local name) h).good;
  front = λ word rest next f. local_behind word name
      ∙ (and_parts (spaced word (Some (w.Local []))) _ (and_parts (spaced word (Some (w.Key 27))) _ f).1).0;
  back = λ next b. and_true _ _
      (local_before name next ∙ (and_parts (spaced (w.Local []) next) _ (and_parts (spaced (w.Key 27) next) _ b).1).0) refl;
}
guarded_stands (Unsigned p) h = enclosed_stands (plain_words (Unsigned p)) (operand_stands (Unsigned p) h)
guarded_stands (NotZero p) h = enclosed_stands (plain_words (NotZero p)) (operand_stands (NotZero p) h)

-- ---- arguments

abbrev argument_firsts : List Word
argument_firsts = w.Punct 12 ∷ operand_firsts

abbrev argument_lasts : List Word
argument_lasts = close_paren ∷ operand_lasts

spread_paren : spaced (w.Punct 12) (Some open_paren) ≡ true
unfolding joins punct_text
spread_paren = refl

argument_stands : (spread : Bool) (p : Plain) → IsNamed p → Stands argument_firsts argument_lasts (argument_words spread p)
argument_stands true p h =
    let s : Stands (open_paren ∷ []) (close_paren ∷ []) (parenthesised (plain_words p)) =
    parens_stand operand_firsts operand_lasts (plain_words p) (operand_stands p h) paren_operand refl in record {
      good = and_true _ _ refl s.good;
      front = λ word rest next f. (and_parts (spaced word (Some (w.Punct 12))) _ f).0;
      back = λ next b. and_true _ _ spread_paren (s.back next (and_true _ _ (and_parts (spaced close_paren next) _ b).0 refl));
    }
argument_stands false p h =
    let s : Stands operand_firsts operand_lasts (plain_words p) = operand_stands p h in record {
      good = s.good;
      front = λ word rest next f. s.front word rest next (and_parts (spaced word (Some (w.Punct 12))) _ f).1;
      back = λ next b. s.back next (and_parts (spaced close_paren next) _ b).1;
    }

-- arguments may stand before `)` and before `, `
lasts_close : all_before argument_lasts (Some close_paren) ≡ true
unfolding joins punct_text
lasts_close = refl

lasts_comma : all_before argument_lasts (Some (w.Punct 7)) ≡ true
unfolding joins punct_text
lasts_comma = refl

tail_front : (spread : Bool) (ps : List Plain) → all_before argument_lasts (first_word (arguments_words false spread ps) (Some close_paren)) ≡ true
tail_front spread [] = lasts_close
tail_front spread (p ∷ ps) = lasts_comma

-- further arguments, each after `, `
record StandBehind (words : List Word) : Type 0 where
  good : list_all is_good words ≡ true
  each : each_next spaced words (Some close_paren) ≡ true

-- an argument and further ones
one_more : (spread last : Bool) (p : Plain) (ps : List Plain) → IsNamed p → StandBehind (arguments_words false spread ps)
    → StandBehind (argument_words last p ++ arguments_words false spread ps)
one_more spread last p ps h rest =
    let words = argument_words last p in
    let behind = arguments_words false spread ps in
    let s = argument_stands last p h in record {
      good = all_both is_good words behind s.good rest.good;
      each = each_next_both spaced words behind (Some close_paren)
          (s.back (first_word behind (Some close_paren)) (tail_front spread ps)) rest.each;
    }

tail_stands : (spread : Bool) (ps : List Plain) → Each IsNamed ps → StandBehind (arguments_words false spread ps)
tail_stands spread [] h = record { good = refl; each = refl }
tail_stands spread (p ∷ ps) h =
    let last = spread && is_none ps in
    let more = one_more spread last p ps h.0 (tail_stands spread ps h.1) in
    let s = argument_stands last p h.0 in record {
      good = and_true _ _ refl (and_true _ _ refl more.good);
      each = and_true _ _ refl (and_true _ _
          (s.front space (arguments_words false spread ps) (Some close_paren) refl) more.each);
    }

-- `(` before arguments
paren_argument : before_all open_paren argument_firsts ≡ true
unfolding joins punct_text
paren_argument = refl

paren_paren : spaced open_paren (Some close_paren) ≡ true
unfolding joins punct_text
paren_paren = refl

arguments_stand : (spread : Bool) (ps : List Plain) → Each IsNamed ps
    → Stands (open_paren ∷ []) (close_paren ∷ []) (parenthesised (arguments_words true spread ps))
arguments_stand spread [] h = record {
  good = refl;
  front = λ word rest next f. (and_parts (spaced word (Some open_paren)) true f).0;
  back = λ next b. and_true _ _ paren_paren (and_true _ _ (and_parts (spaced close_paren next) true b).0 refl);
}
arguments_stand spread (p ∷ ps) h =
    let last = spread && is_none ps in
    let words = argument_words last p ++ arguments_words false spread ps in
    let inner = one_more spread last p ps h.0 (tail_stands spread ps h.1) in
    let s = argument_stands last p h.0 in record {
      good = and_true _ _ refl (all_both is_good words (close_paren ∷ []) inner.good refl);
      front = λ word rest next f. (and_parts (spaced word (Some open_paren)) true f).0;
      back = λ next b. and_true _ _
          (subst (λ (xs : List Word). spaced open_paren (first_word xs next) ≡ true)
          (sym (append_assoc (argument_words last p) (arguments_words false spread ps) (close_paren ∷ [])))
          (s.front open_paren (arguments_words false spread ps ++ close_paren ∷ []) next paren_argument))
          (each_next_both spaced words (close_paren ∷ []) next inner.each
          (and_true _ _ (and_parts (spaced close_paren next) true b).0 refl));
    }

-- ---- parts

-- a word by itself
word_stands : (word first last : Word) → list_all is_good (word ∷ []) ≡ true
    → ((before : Word) → spaced before (Some word) ≡ spaced before (Some first))
    → ((next : Option Word) → spaced word next ≡ spaced last next) → Stands (first ∷ []) (last ∷ []) (word ∷ [])
word_stands word first last good behind before = record {
  good = good;
  front = λ other rest next f. behind other ∙ (and_parts (spaced other (Some first)) true f).0;
  back = λ next b. and_true _ _ (before next ∙ (and_parts (spaced last next) true b).0) refl;
}

-- a word that holds no name
plain_stands : (word : Word) → is_good word ≡ true → Stands (word ∷ []) (word ∷ []) (word ∷ [])
plain_stands word h = word_stands word word word (and_true _ _ h refl) (λ before. refl) (λ next. refl)

-- a value of the host
host_stands : (name : List ℕ) (fields : List (List ℕ)) → is_ident name ≡ true
    → Stands (w.Host [] false ∷ []) closers (w.Host name false ∷ path_words fields)
host_stands name fields h =
    let path = path_words fields in
    let between : StandsBetween path = path_stands fields in record {
      good = and_true _ _ (ap (λ (b : Bool). ((b && true) && true) && true) h) between.good;
      front = λ word rest next f. host_behind word name ∙ (and_parts (spaced word (Some (w.Host [] false))) true f).0;
      back = λ next b.
          let may = follows next b in
          and_true _ _ ((between.front next may).host name) (between.each next may);
    }

-- the first word of an access
access_front : (word : Word) → before_all word accesses ≡ true
    → (spaced word (Some dot) ≡ true) × (spaced word (Some open_bracket) ≡ true) × ((key : List ℕ) → spaced word (Some (w.Splice key)) ≡ true)
access_front word f =
    let first = and_parts (spaced word (Some dot)) _ f in
    let second = and_parts (spaced word (Some open_bracket)) _ first.1 in
    (first.0, second.0, λ key. key_behind word key ∙ (and_parts (spaced word (Some (w.Splice []))) true second.1).0)

segment_front : (word : Word) (name : List ℕ) (rest : List Word) (next : Option Word) → before_all word accesses ≡ true
    → spaced word (first_word (segment_words name ++ rest) next) ≡ true
unfolding segment_words
segment_front word name rest next f = by (is_ident name)
  where
    by : (b : Bool) → spaced word
        (first_word (cond b (dot ∷ w.Prop name ∷ []) (open_bracket ∷ w.Text name ∷ close_bracket ∷ []) ++ rest) next) ≡ true
    by true = (access_front word f).0
    by false = (access_front word f).1

segments_front : (word : Word) (names : List (List ℕ)) (rest : List Word) (next : Option Word) → 0 < length names
    → before_all word accesses ≡ true → spaced word (first_word (flat_map segment_words names ++ rest) next) ≡ true
segments_front word [] rest next lt f = absurd (omega (arith, lt))
segments_front word (name ∷ names) rest next lt f =
    subst (λ (words : List Word). spaced word (first_word words next) ≡ true)
    (sym (append_assoc (segment_words name) (flat_map segment_words names) rest))
    (segment_front word name (flat_map segment_words names ++ rest) next f)

property_front : (word : Word) (name : List ℕ) (rest : List Word) (next : Option Word) → before_all word accesses ≡ true
    → spaced word (first_word (property_parts name ++ rest) next) ≡ true
unfolding property_parts
property_front word name rest next f = by (is_computed name)
  where
    parts : List (List ℕ)
    parts = slice_split (λ b. b == 46) name

    by : (b : Bool) → spaced word
        (first_word (cond b (w.Splice name ∷ []) (flat_map segment_words parts) ++ rest) next) ≡ true
    by true = (access_front word f).2 name
    by false = segments_front word parts rest next (omega (arith, length-slice_split (λ b. b == 46) name)) f

access_stands : (name : List ℕ) → Stands accesses closers (property_parts name)
access_stands name =
    let between : StandsBetween (property_parts name) = property_stands name in record {
      good = between.good;
      front = λ word rest next f. property_front word name rest next f;
      back = λ next b. between.each next (follows next b);
    }

-- `?.` stands before an access without its dot
chained_front : (name : List ℕ) (next : Option Word) → spaced optional (first_word (without_dot (property_parts name)) next) ≡ true
unfolding property_parts segment_words joins punct_text
chained_front name next = by (is_computed name)
  where
    parts : List (List ℕ)
    parts = slice_split (λ b. b == 46) name

    segment : (first : List ℕ) (b : Bool) (rest : List Word) → spaced optional
        (first_word (without_dot (cond b (dot ∷ w.Prop first ∷ []) (open_bracket ∷ w.Text first ∷ close_bracket ∷ []) ++ rest)) next) ≡ true
    segment first true rest = refl
    segment first false rest = refl

    segments : (names : List (List ℕ)) → 0 < length names → spaced optional (first_word (without_dot (flat_map segment_words names)) next) ≡ true
    segments [] lt = absurd (omega (arith, lt))
    segments (first ∷ names) lt = segment first (is_ident first) (flat_map segment_words names)

    by : (b : Bool) → spaced optional (first_word (without_dot (cond b (w.Splice name ∷ []) (flat_map segment_words parts))) next) ≡ true
    by true = refl
    by false = segments parts (omega (arith, length-slice_split (λ b. b == 46) name))

-- words stand without the dot that they begin with
undotted_good : (words : List Word) → list_all is_good words ≡ true → list_all is_good (without_dot words) ≡ true
undotted_good [] h = refl
undotted_good (w.Punct place ∷ words) h = by (place == 6)
  where
    by : (b : Bool) → list_all is_good (cond b words (w.Punct place ∷ words)) ≡ true
    by true = (and_parts (is_good (w.Punct place)) (list_all is_good words) h).1
    by false = h
undotted_good (word ∷ words) h = h

undotted_each : (words : List Word) (next : Option Word) → each_next spaced words next ≡ true → each_next spaced (without_dot words) next ≡ true
undotted_each [] next h = refl
undotted_each (w.Punct place ∷ words) next h = by (place == 6)
  where
    by : (b : Bool) → each_next spaced (cond b words (w.Punct place ∷ words)) next ≡ true
    by true = (and_parts (spaced (w.Punct place) (first_word words next)) (each_next spaced words next) h).1
    by false = h
undotted_each (word ∷ words) next h = h

chained_stands : (name : List ℕ) → Stands (optional ∷ []) closers (chained_words name)
chained_stands name =
    let between : StandsBetween (property_parts name) = property_stands name in record {
      good = and_true _ _ refl (undotted_good (property_parts name) between.good);
      front = λ word rest next f. (and_parts (spaced word (Some optional)) true f).0;
      back = λ next b. and_true _ _ (chained_front name next) (undotted_each (property_parts name) next (between.each next (follows next b)));
    }

-- each part of so many locals, whose names are identifiers
module _ (count : ℕ) (locals : List (List ℕ)) (there : (n : ℕ) → nat_lt n count ≡ true → is_ident (item_at [] locals n) ≡ true)
    (args : List Plain) (named : Each IsNamed args) where
  part_stands : (p : Part) → part_good count p ≡ true → Stands (first_words p) (last_words p) (part_words locals args p)
  part_stands (part.Host name fields) h = host_stands name fields h
  part_stands (part.Name name) h = plain_stands (w.Refer name false) (ap (λ (b : Bool). ((b && true) && true) && true) h)
  part_stands part.Exports h = plain_stands (w.Refer (codes "wasm") false)
      (ap (λ (b : Bool). ((b && true) && true) && true) (ascii_ident (codes "wasm") refl))
  part_stands (part.Export name) h = record {
    good = ap (λ (b : Bool). (((b && true) && true) && true) && true) (ascii_ident (codes "wasm") refl);
    front = λ word rest next f. (and_parts (spaced word (Some (w.Refer (codes "wasm") false))) true f).0;
    back = λ next b. and_true _ _ (export_before name next ∙ (and_parts (spaced (w.Wasm []) next) true b).0) refl;
  }
  part_stands (part.Property name) h = access_stands name
  part_stands (part.Chained name) h = chained_stands name
  part_stands (part.Member name) h = plain_stands (w.Prop name) (ap (λ (b : Bool). ((b && true) && true) && true) (ident_prop name h))
  part_stands (part.Number value) h = plain_stands (w.Num value) refl
  part_stands part.LineFeed h = plain_stands line_feed refl
  part_stands (part.Note text) h = plain_stands (w.Note Slash text) refl
  part_stands (part.Binding n) h =
      let name = item_at [] locals n in
      word_stands (w.LocalBind name) (w.LocalBind []) (w.LocalBind []) (ap (λ (b : Bool). (((b && true) && true) && true) && true) (there n h))
      (λ before. bound_behind before name) (λ next. bound_before name next)
  part_stands (part.Local n) h =
      let name = item_at [] locals n in
      word_stands (w.Local name) (w.Local []) (w.Local []) (ap (λ (b : Bool). (((b && true) && true) && true) && true) (there n h))
      (λ before. local_behind before name) (λ next. local_before name next)
  part_stands (part.Literal text) h =
      word_stands (w.Text text) (w.Text []) (w.Text []) refl (λ before. text_behind before text) (λ next. text_before text next)
  part_stands (part.Punct place) h = plain_stands (w.Punct place) h
  part_stands (part.Key place) h = plain_stands (w.Key place) h
  part_stands part.Space h = plain_stands space refl
  part_stands (part.Operand n) h = guarded_stands (item_at Missing args n) (each_item IsNamed Missing tt args n named)
  part_stands (part.Whole n) h = operand_stands (item_at Missing args n) (each_item IsNamed Missing tt args n named)
  part_stands (part.Arguments spread) h = arguments_stand spread args named
  part_stands (part.OtherArguments spread) h = arguments_stand spread (below args) (each_below IsNamed Missing tt args named)

  -- what a part may end with stands before what the next one begins with
  through : (words firsts : List Word) (more : List Word) (next : Option Word)
      → ((word : Word) → before_all word firsts ≡ true → spaced word (first_word more next) ≡ true)
      → list_all (λ word. before_all word firsts) words ≡ true → all_before words (first_word more next) ≡ true
  through [] firsts more next front h = refl
  through (word ∷ words) firsts more next front h =
      let p = and_parts (before_all word firsts) (list_all (λ word. before_all word firsts) words) h in
      and_true _ _ (front word p.0) (through words firsts more next front p.1)

  abbrev head_firsts : List Part → List Word
  head_firsts [] = []
  head_firsts (p ∷ parts) = first_words p

  abbrev words_of_parts : List Part → List Word
  words_of_parts parts = parts_words parts locals args

  record StandsBefore (next : Option Word) (parts : List Part) : Type 0 where
    good : list_all is_good (words_of_parts parts) ≡ true
    front : (word : Word) (rest : List Word) (behind : Option Word) → before_all word (head_firsts parts) ≡ true
        → spaced word (first_word (words_of_parts parts ++ rest) behind) ≡ true
    each : each_next spaced (words_of_parts parts) next ≡ true

  first_of : (next : Option Word) (q : Part) (parts : List Part) → StandsBefore next (q ∷ parts) → (word : Word)
      → before_all word (first_words q) ≡ true → spaced word (first_word (words_of_parts (q ∷ parts)) next) ≡ true
  first_of next q parts s word f = subst (λ (words : List Word). spaced word (first_word words next) ≡ true)
      (append-nil (words_of_parts (q ∷ parts))) (s.front word [] next f)

  parts_stand : (next : Option Word) (parts : List Part) → parts_fit count next parts ≡ true → StandsBefore next parts
  parts_stand next [] h = absurd (true≢false (sym h))
  parts_stand next (p ∷ []) h =
      let given = and_parts (part_good count p) _ h in
      let s = part_stands p given.0 in record {
        good = all_both is_good (part_words locals args p) [] s.good refl;
        front = λ word rest behind f. subst (λ (words : List Word). spaced word (first_word words behind) ≡ true)
            (sym (append_assoc (part_words locals args p) [] rest)) (s.front word rest behind f);
        each = each_next_both spaced (part_words locals args p) [] next (s.back next given.1) refl;
      }
  parts_stand next (p ∷ q ∷ parts) h =
      let given = and_parts (part_good count p) _ h in
      let beside = and_parts (meets p q) (parts_fit count next (q ∷ parts)) given.1 in
      let s = part_stands p given.0 in
      let rest = parts_stand next (q ∷ parts) beside.1 in
      let more = words_of_parts (q ∷ parts) in record {
        good = all_both is_good (part_words locals args p) more s.good rest.good;
        front = λ word others behind f. subst (λ (words : List Word). spaced word (first_word words behind) ≡ true)
            (sym (append_assoc (part_words locals args p) more others)) (s.front word (more ++ others) behind f);
        each = each_next_both spaced (part_words locals args p) more next
            (s.back (first_word more next) (through (last_words p) (first_words q) more next
            (first_of next q parts rest) beside.0)) rest.each;
      }

  -- parts that end with a line feed fit before whatever a line feed may stand before
  fed : (next : Option Word) → spaced line_feed next ≡ true → (parts : List Part) → parts_fit count None parts ≡ true
      → ends_line parts ≡ true → parts_fit count next parts ≡ true
  fed next k [] h e = absurd (true≢false (sym h))
  fed next k (part.LineFeed ∷ []) h e = and_true _ _ k refl
  fed next k (p ∷ q ∷ parts) h e =
      let given = and_parts (part_good count p) _ h in
      let beside = and_parts (meets p q) (parts_fit count None (q ∷ parts)) given.1 in
      and_true _ _ given.0 (and_true _ _ beside.0 (fed next k (q ∷ parts) beside.1 e))
  fed next k (p ∷ []) h e = absurd (true≢false (sym e))

  record StandsAbove (next : Option Word) (parts : List Part) : Type 0 where
    good : list_all is_good (words_of_parts parts) ≡ true
    each : each_next spaced (words_of_parts parts) next ≡ true

  prelude_stands : (next : Option Word) → spaced line_feed next ≡ true → (parts : List Part) → prelude_fits count parts ≡ true → StandsAbove next parts
  prelude_stands next k [] h = record { good = refl; each = refl }
  prelude_stands next k (p ∷ parts) h =
      let given = and_parts (parts_fit count None (p ∷ parts)) (ends_line (p ∷ parts)) h in
      let s = parts_stand next (p ∷ parts) (fed next k (p ∷ parts) given.0 given.1) in
      record { good = s.good; each = s.each }

-- the words of parts that go by neither locals nor operands stand before what follows them
pub record StandsFree (next : Option Word) (parts : List Part) : Type 0 where
  pub good : list_all is_good (parts_words parts [] []) ≡ true
  pub each : each_next spaced (parts_words parts [] []) next ≡ true

pub free_stand : (next : Option Word) (parts : List Part) → parts_fit 0 next parts ≡ true → StandsFree next parts
free_stand next parts h =
    let s = parts_stand 0 [] none [] tt next parts h in record { good = s.good; each = s.each }
  where
    none : (n : ℕ) → nat_lt n 0 ≡ true → is_ident (item_at [] [] n) ≡ true
    none n less = let no : n < 0 = grind (arith, nat_tests, less) in absurd (omega (arith, no))

-- ---- the statement

-- words that take no export begin with none
no_access : (words : List Word) → wasm_in words ≡ [] → begins_apart words ≡ true
no_access [] h = refl
no_access (w.Wasm name ∷ words) h = cc
no_access (word ∷ words) h = refl

both_apart : (words more : List Word) → begins_apart words ≡ true → begins_apart more ≡ true → begins_apart (words ++ more) ≡ true
both_apart [] more h k = k
both_apart (word ∷ words) more h k = h

mark_apart : (b : Bool) (place : ℕ) → begins_apart (word_if b (w.Punct place)) ≡ true
mark_apart true place = refl
mark_apart false place = refl

-- an operand is no access of an export
operand_apart : (p : Plain) → begins_apart (plain_words p) ≡ true
operand_apart Missing = refl
operand_apart This = refl
operand_apart (Local name) = refl
operand_apart (Unsigned p) =
    let closed = word_if (is_comparison p) (w.Punct 3) in
    both_apart (word_if (is_comparison p) (w.Punct 2)) (plain_words p ++ (closed ++ shift_words)) (mark_apart (is_comparison p) 2)
    (both_apart (plain_words p) (closed ++ shift_words) (operand_apart p) (both_apart closed shift_words (mark_apart (is_comparison p) 3) refl))
operand_apart (NotZero p) = both_apart (plain_words p) unequal_words (operand_apart p) refl

guarded_apart : (p : Plain) → begins_apart (guarded_words p) ≡ true
guarded_apart Missing = refl
guarded_apart This = refl
guarded_apart (Local name) = refl
guarded_apart (Unsigned p) = refl
guarded_apart (NotZero p) = refl

-- nor does a part begin with one
part_apart : (locals : List (List ℕ)) (args : List Plain) (p : Part) → begins_apart (part_words locals args p) ≡ true
part_apart locals args (part.Property name) = no_access (property_parts name) (property_tells name).takes
part_apart locals args (part.Operand n) = guarded_apart (item_at Missing args n)
part_apart locals args (part.Whole n) = operand_apart (item_at Missing args n)
part_apart locals args other = refl

parts_apart : (locals : List (List ℕ)) (args : List Plain) (parts : List Part) (more : List Word) → begins_apart more ≡ true
    → begins_apart (parts_words parts locals args ++ more) ≡ true
parts_apart locals args [] more h = h
parts_apart locals args (p ∷ parts) more h =
    subst (λ (words : List Word). begins_apart words ≡ true) (sym (append_assoc (part_words locals args p) (parts_words parts locals args) more))
    (both_apart (part_words locals args p) (parts_words parts locals args ++ more) (part_apart locals args p) (parts_apart locals args parts more h))

-- after a space or a line feed any part may stand
after_gap : (text : List ℕ) (p : Part) → before_all (w.Gap text) (first_words p) ≡ true
after_gap text (part.Property name) = refl
after_gap text (part.Operand n) = refl
after_gap text (part.Whole n) = refl
after_gap text p = refl

start_good : (name : List ℕ) → is_ident name ≡ true → list_all is_good (const_start name) ≡ true
start_good name i = ap (λ (b : Bool). (((b && true) && true) && true) && true) i

start_each : (name : List ℕ) (next : Option Word) → spaced space next ≡ true → each_next spaced (const_start name) next ≡ true
start_each name next f = and_true _ _ f refl

-- the statements of an expression that fits stand as lines, whatever the names of its locals and the operands are
module _ (e : Expression) (f : Fitting e) (locals : List (List ℕ)) (same : length locals ≡ length e.locals)
    (idents : Each (λ (x : List ℕ). is_ident x ≡ true) locals) (args : List Plain) (named : Each IsNamed args) where
  there : (n : ℕ) → nat_lt n (length e.locals) ≡ true → is_ident (item_at [] locals n) ≡ true
  there n h =
      let lt : n < length locals = grind (arith, nat_tests, same) in
      each_there (λ (x : List ℕ). is_ident x ≡ true) [] locals n lt idents

  abbrev before_words : List Word
  before_words = parts_words e.prelude locals args

  abbrev value_words : List Word
  value_words = parts_words e.value locals args

  abbrev ended : List Word
  ended = value_words ++ semicolon ∷ []

  stand : StandsBefore (length e.locals) locals there args named (Some semicolon) e.value
  stand = parts_stand (length e.locals) locals there args named (Some semicolon) e.value f.value

  ended_good : list_all is_good ended ≡ true
  ended_good = all_both is_good value_words (semicolon ∷ []) stand.good refl

  ended_each : each_next spaced ended (Some line_feed) ≡ true
  ended_each = each_next_both spaced value_words (semicolon ∷ []) (Some line_feed) stand.each refl

  ended_apart : begins_apart ended ≡ true
  ended_apart = parts_apart locals args e.value (semicolon ∷ []) refl

  -- the value behind a space or a line feed
  ended_behind : (text : List ℕ) → spaced (w.Gap text) (first_word ended (Some line_feed)) ≡ true
  ended_behind text = stand.front (w.Gap text) (semicolon ∷ []) (Some line_feed) (gap_before e.value f.value)
    where
      gap_before : (parts : List Part) → parts_fit (length e.locals) (Some semicolon) parts ≡ true
          → before_all (w.Gap text) (head_firsts (length e.locals) locals there args named parts) ≡ true
      gap_before [] h = refl
      gap_before (p ∷ parts) h = after_gap text p

  -- the statements before the value, and words behind them
  behind_prelude : (words : List Word) → list_all is_good words ≡ true → each_next spaced words (Some line_feed) ≡ true
      → spaced line_feed (first_word words (Some line_feed)) ≡ true → begins_apart words ≡ true → is_line (before_words ++ words) ≡ true
  behind_prelude words g k fed n =
      let above = prelude_stands (length e.locals) locals there args named (first_word words (Some line_feed)) fed e.prelude f.«prelude» in
      and_true _ _ (all_both is_good before_words words above.good g)
      (and_true _ _ (each_next_both spaced before_words words (Some line_feed) above.each k)
      (parts_apart locals args e.prelude words n))

  pub run_stands : is_line (import_line_words None e locals args) ≡ true
  run_stands = behind_prelude ended ended_good ended_each (ended_behind (codes "\n")) ended_apart

  pub bound_stands : (name : List ℕ) → is_ident name ≡ true → is_line (import_line_words (Some name) e locals args) ≡ true
  bound_stands name ident = behind_prelude (const_start name ++ ended)
      (all_both is_good (const_start name) ended (start_good name ident) ended_good)
      (each_next_both spaced (const_start name) ended (Some line_feed)
      (start_each name (first_word ended (Some line_feed)) (ended_behind (codes " "))) ended_each) refl refl
